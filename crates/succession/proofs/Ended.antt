-- The end of a record: it is the last entry, and draws nothing.
use Rattle.std.proofs.Common.{◌≡◌, ℕ, ◌+◌, ◌-◌, List, [], ◌∷◌, ◌++◌, length, take, Option, Some, None, not, map, refl, sym, ap, ◌∙◌, append-nil, arith}
use Rattle.std.specs.Prelude.{filter, filter_map, slice_get}
use Rattle.std.proofs.lemmas.List.{take_more, take_all, map-append}
use Rattle.std.proofs.lemmas.List.Elements.{filter_map-append}
use Rattle.std.proofs.lemmas.Option.{get_or_from_slice_get}
use Rattle.base_types.specs.Names.{Name}
use Rattle.rules.specs.declared.history.Entry.{Entry}
use Rattle.rules.specs.declared.history.Entry.TheVariants.{Next}
use Rattle.rules.specs.declared.history.Op.{Op}
use Rattle.rules.specs.Bodies.{is_change_body, kind_of_body}
use Rattle.rules.specs.Operations.{creation_of, name_of}
use Rattle.rules.specs.Records.{operation_in, operations, objects}
use Rattle.rules.specs.Versions.{versions}
use Rattle.drawing.specs.Shown.{shown_by}
use Rattle.room_core.specs.Room.{Room, full_room}
use Rattle.renewal.specs.Drawn.{Drawn, drawn, drawn_if, live_versions, picture_in}
use Rattle.renewal.specs.Renewed.{IsShortRenewal}
use Rattle.succession.specs.Succession.{Follows}
use Rattle.succession.specs.steps.Ends.{EndsWith}

-- a list with a last element
last-split : {A : Type 0} (xs : List A) (x : A) → slice_get xs (length xs - 1) ≡ Some x → xs ≡ take (length xs - 1) xs ++ x ∷ []
last-split [] x e = absurd cc
last-split (y ∷ ys) x e =
    let xs = y ∷ ys in
    let some : length xs - 1 + 1 ≡ length xs = omega arith in
    sym (take_all (length xs - 1 + 1) xs (omega (arith, some)))
    ∙ take_more xs (length xs - 1) x (omega (arith, some))
    ∙ ap (λ z. take (length xs - 1) xs ++ z ∷ []) (get_or_from_slice_get xs (length xs - 1) x x e)

-- a record whose last entry is an end
pub ends_with : {A : Type 0} (xs : List A) (f : A → Entry) (x : A) (count : ℕ) (r : List Entry) → map f xs ≡ r → slice_get xs (length xs - 1) ≡ Some x → f x ≡ Next count → EndsWith r count
ends_with xs f x count r same last next = record {
  before = map f (take (length xs - 1) xs);
  ended =
      sym same ∙ ap (map f) (last-split xs x last) ∙ map-append f (take (length xs - 1) xs) (x ∷ [])
      ∙ ap (λ entry. map f (take (length xs - 1) xs) ++ entry ∷ []) next;
}

-- what these operations draw of the object of this name, by its creation
picture_by : List Op → Name → Option Op → Option Drawn
picture_by h name None = None
picture_by h name (Some op) = drawn_if (kind_of_body op.body) (live_versions (versions h name))

shown_draws : (r : List Entry) (name : Name) (creation : Option Op) → picture_in (shown_by r name creation) ≡ picture_by (operations r) name creation
unfolding picture_by
shown_draws r name None = refl
shown_draws r name (Some op) = refl

-- what these operations draw
drawn_of : List Op → List Drawn
drawn_of h = filter_map (λ name. picture_by h name (creation_of h name)) (map name_of (filter (λ op. not (is_change_body op.body)) h))

-- operations alone draw
operations_draw : (r : List Entry) → drawn r ≡ drawn_of (operations r)
unfolding drawn_of
operations_draw r =
    ap (λ (f : Name → Option Drawn). filter_map f (map name_of (objects r))) (λ i name. shown_draws r name (creation_of (operations r) name) i)

end_holds_none : (r : List Entry) (count : ℕ) → operations (r ++ Next count ∷ []) ≡ operations r
end_holds_none r count = filter_map-append operation_in r (Next count ∷ []) ∙ append-nil (operations r)

pub end_draws_nothing : (r : List Entry) (count : ℕ) → drawn (r ++ Next count ∷ []) ≡ drawn r
end_draws_nothing r count = operations_draw (r ++ Next count ∷ []) ∙ ap drawn_of (end_holds_none r count) ∙ sym (operations_draw r)

-- a renewal of a record that has ended, with as many entries as its end names, follows it
pub follows : (old new : Room) (count : ℕ) → EndsWith old.entries count → IsShortRenewal old.entries new.entries → new ≡ full_room new.entries → length new.entries ≡ count → Follows old new
follows old new count end renewed whole counted = record {
  before = end.before;
  ended = end.ended ∙ ap (λ n. end.before ++ Next n ∷ []) (sym counted);
  renewal = record {
    legal = renewed.renewal.legal;
    same = renewed.renewal.same ∙ ap drawn end.ended ∙ end_draws_nothing end.before count;
  };
  whole = whole;
}
