-- A replica with one more entry.
use Rattle.std.proofs.Common.{◌≡◌, ℕ, ◌<◌, Bool, true, List, [], ◌∷◌, ◌++◌, length, refl, sym, ap, ◌∙◌, None, ◌||◌, leb, ltb, eqb, append_assoc}
use Rattle.std.specs.Prelude.{is_none}
use Rattle.std.specs.List.{list_any}
use Rattle.std.proofs.lemmas.Bool.{and_from, leb-false}
use Rattle.std.proofs.lemmas.List.{append-nil}
use Rattle.std.proofs.lemmas.List.Elements.{filter_map-append}
use Rattle.rules.specs.declared.history.Op.{Op}
use Rattle.rules.specs.declared.history.Entry.{Entry}
use Rattle.rules.specs.declared.history.Entry.TheVariants.{Join, Next, Operation}
use Rattle.rules.specs.declared.refusal.Refusal.TheVariants.{RoomFull, RecordFull}
use Rattle.rules.specs.declared.limits.LimitValues.{LimitValues}
use Rattle.rules.specs.Records.{EachAfter}
use Rattle.rules.proofs.Conditions.{not_first}
use Rattle.rules.proofs.Ended.{ended_so}
use Rattle.rules.proofs.Records.{has_ended-kept}
use Rattle.late_join.specs.Taking.{has_joined, take_fault, is_entry, may_take, IsTakeable}
use Rattle.late_join.specs.Kept.{IsReplica, site_in, sites_in}
use Rattle.late_join.proofs.Taken.{parts_of_taken}

-- ---- the sites that have joined

pub joined_is : (t : List Entry) (site : ℕ) → list_any (λ joined. eqb joined site) (sites_in t) ≡ has_joined t site
joined_is [] site = refl
joined_is (Join other ∷ t) site = ap (λ b. eqb other site || b) (joined_is t site)
joined_is (Operation op ∷ t) site = joined_is t site
joined_is (Next count ∷ t) site = joined_is t site

-- ---- one entry more

takeable_push_after : (b : LimitValues) (t rest : List Entry) (e : Entry) → EachAfter (may_take b) t rest → may_take b (t ++ rest) e ≡ true → EachAfter (may_take b) t (rest ++ e ∷ [])
takeable_push_after b t [] e g a = (ap (λ x. may_take b x e) (sym (append-nil t)) ∙ a, tt)
takeable_push_after b t (x ∷ rest) e g a = (g.0, takeable_push_after b (t ++ x ∷ []) rest e g.1 (ap (λ y. may_take b y e) (append_assoc t (x ∷ []) rest) ∙ a))

takeable_push : (b : LimitValues) (t : List Entry) (e : Entry) → IsTakeable b t → may_take b t e ≡ true → IsTakeable b (t ++ e ∷ [])
takeable_push b t e g a = takeable_push_after b [] t e g a

pub may_take_if : (b : LimitValues) (t : List Entry) (e : Entry) → is_entry e ≡ true → take_fault b t e ≡ None → may_take b t e ≡ true
may_take_if b t e v n = and_from (is_entry e) (is_none (take_fault b t e)) v (ap is_none n)

pub room_for_join : (b : LimitValues) (t : List Entry) (site : ℕ) → may_take b t (Join site) ≡ true → length t < b.entries
room_for_join b t site a =
    let p = (parts_of_taken b t (Join site) a).3 in
    let x = not_first (eqb site 0 || ltb b.joins site, RoomFull) ((leb b.entries (length t), RecordFull) ∷ []) p in
    leb-false b.entries (length t) (not_first (leb b.entries (length t), RecordFull) [] x.1).0

pub room_for_end : (b : LimitValues) (t : List Entry) (count : ℕ) → may_take b t (Next count) ≡ true → length t < b.entries
room_for_end b t count a =
    leb-false b.entries (length t) (not_first (leb b.entries (length t), RecordFull) [] (parts_of_taken b t (Next count) a).3).0

sites-operation : (t : List Entry) (o : Op) → sites_in (t ++ Operation o ∷ []) ≡ sites_in t
sites-operation t o = filter_map-append site_in t (Operation o ∷ []) ∙ append-nil (sites_in t)

sites-end : (t : List Entry) (count : ℕ) → sites_in (t ++ Next count ∷ []) ≡ sites_in t
sites-end t count = filter_map-append site_in t (Next count ∷ []) ∙ append-nil (sites_in t)

module _ (l : LimitValues) (t : List Entry) (joined : List ℕ) (ended : Bool) (kept : IsReplica l t joined ended) where
  pub replica_joined : (site : ℕ) → may_take l t (Join site) ≡ true → IsReplica l (t ++ Join site ∷ []) (joined ++ site ∷ []) ended
  replica_joined site a = record {
    takeable = takeable_push l t (Join site) kept.takeable a;
    joins = ap (λ (js : List ℕ). js ++ site ∷ []) kept.joins ∙ sym (filter_map-append site_in t (Join site ∷ []));
    end = kept.end ∙ sym (has_ended-kept t (Join site) refl);
  }

  pub replica_grown : (o : Op) → may_take l t (Operation o) ≡ true → IsReplica l (t ++ Operation o ∷ []) joined ended
  replica_grown o a = record {
    takeable = takeable_push l t (Operation o) kept.takeable a;
    joins = kept.joins ∙ sym (sites-operation t o);
    end = kept.end ∙ sym (has_ended-kept t (Operation o) refl);
  }

  pub replica_ended : (count : ℕ) → may_take l t (Next count) ≡ true → IsReplica l (t ++ Next count ∷ []) joined true
  replica_ended count a = record {
    takeable = takeable_push l t (Next count) kept.takeable a;
    joins = kept.joins ∙ sym (sites-end t count);
    end = sym (ended_so t count);
  }
