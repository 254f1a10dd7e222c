use Rattle.std.proofs.Common.{◌≡◌, ℕ, ◌<◌, ◌∙◌, sym, ap, subst, Bool, true, false, length, get_or, List, [], arith, rules, of_calls, map}
use Rattle.std.specs.Prelude.{OnOk, nat_le, filter}
use Rattle.std.specs.Fn.{Called, ComputesKey}
use Rattle.std.specs.List.Sorted.{IsNonDecreasingBy, IsPartitionedBy, IsPartitionPoint}
use Rattle.std.proofs.lemmas.List.Sorted.{IsPartitionedBy-leb, IsPartitionPoint-from_clause}
use Rattle.base_types.specs.Vectors.{count_of}
use Rattle.places.specs.steps.PlaceSet.{has, places, with_places}
use Rattle.changes_by_site.specs.steps.Indexes.{OfSite, IsRising, counted_of}
use Rattle.changes_by_site.proofs.Sited.{counted_whole, counted_none, counted_cut}
use Rattle.changes_by_site.proofs.by_site.SiteChanges.insert_counted.Goals as goal
use denote.Param.Members.{Mut}
use denote.Ref.{Bor}

-- what the search for the first change that isn't counted says
point : {F : Type 0} {g : Mut F (Bor (ℕ × ℕ) × Unit {0}) Bool} {f : F} (of : OfSite) (number i : ℕ) (changes : List (ℕ × ℕ)) → changes ≡ of.changes → IsRising of
    → ((p : ℕ × ℕ → Bool) → ComputesKey g p f → IsPartitionedBy p changes → IsPartitionPoint (λ s. p s ≡ true) (λ s. p s ≡ false) changes i)
    → ((a : Bor (ℕ × ℕ) × Unit {0}) (r : Bool) (h : F) → Called g f a r h → (r ≡ nat_le a.0.now.0 number) × (h ≡ f))
    → IsPartitionPoint (λ (s : ℕ × ℕ). nat_le s.0 number ≡ true) (λ (s : ℕ × ℕ). nat_le s.0 number ≡ false) of.changes i
point of number i changes e r clause calls =
    subst (λ (l : List (ℕ × ℕ)). IsPartitionPoint (λ (s : ℕ × ℕ). nat_le s.0 number ≡ true) (λ (s : ℕ × ℕ). nat_le s.0 number ≡ false) l i) e
    (IsPartitionPoint-from_clause (λ (s : ℕ × ℕ). nat_le s.0 number) changes i clause (IsPartitionedBy-leb (λ (s : ℕ × ℕ). s.0) changes number (subst (IsNonDecreasingBy (λ (s : ℕ × ℕ). s.0)) (sym e) r.numbers)) calls)

pub returns-then-counted-len : goal.returns-then-counted-len
returns-then-counted-len c =
    let of = c.args.self.now in
    let seen = c.args.seen.now in
    let i = c.partition_point-counted.result in
    let changes : c.deref.result.now ≡ of.changes = c.deref.ensures.value ∙ ap (λ (o : OfSite). o.changes) c.self.view_is in
    let number : c.count-number.result ≡ count_of seen of.site = c.count-number.ensures ∙ ap (λ (o : OfSite). count_of seen o.site) c.self.view_is in
    let size : i ≡ length of.changes = omega (arith, ap length changes, c.deref.ensures.len, c.len.ensures, c.if-counted-len.true) in
    let all : c.self.inside.places ≡ counted_of seen of =
    ap (λ (o : OfSite). o.places) c.self.view_is
    ∙ counted_whole of c.requires c.count-number.result i (point of c.count-number.result i c.deref.result.now changes c.requires c.partition_point-counted.ensures.partitioned (λ a r f k. search (rules, of_calls))) size
    ∙ ap (λ n. map (λ (s : ℕ × ℕ). s.1) (filter (λ (s : ℕ × ℕ). nat_le s.0 n) of.changes)) number in
    subst (λ (l : List ℕ). OnOk c.insert_all.result (c.insert_all.new.self ≡ with_places c.args.known.now l)) all c.insert_all.ensures.ok

pub returns-then-counted-eq0 : goal.returns-then-counted-eq0
returns-then-counted-eq0 c =
    let of = c.args.self.now in
    let seen = c.args.seen.now in
    let i = c.partition_point-counted.result in
    let changes : c.deref.result.now ≡ of.changes = c.deref.ensures.value ∙ ap (λ (o : OfSite). o.changes) c.self.view_is in
    let number : c.count-number.result ≡ count_of seen of.site = c.count-number.ensures ∙ ap (λ (o : OfSite). count_of seen o.site) c.self.view_is in
    let none : counted_of seen of ≡ [] =
    ap (λ n. map (λ (s : ℕ × ℕ). s.1) (filter (λ (s : ℕ × ℕ). nat_le s.0 n) of.changes)) (sym number)
    ∙ counted_none of c.requires c.count-number.result i (point of c.count-number.result i c.deref.result.now changes c.requires c.partition_point-counted.ensures.partitioned (λ a r f k. search (rules, of_calls))) c.if-counted-eq0.true in
    ap (with_places c.args.known.now) (sym none)

pub returns : goal.returns
returns c =
    let of = c.args.self.now in
    let seen = c.args.seen.now in
    let i = c.partition_point-counted.result in
    let changes : c.deref.result.now ≡ of.changes = c.deref.ensures.value ∙ ap (λ (o : OfSite). o.changes) c.self.view_is in
    let number : c.count-number.result ≡ count_of seen of.site = c.count-number.ensures ∙ ap (λ (o : OfSite). count_of seen o.site) c.self.view_is in
    let within : i < length of.changes = omega (arith, ap length changes, c.deref.ensures.len, c.len.ensures, c.if-counted-len.false, c.partition_point-counted.ensures.bound) in
    let first : c.index.result.now ≡ get_or of.changes i c.index.result.now = c.index.ensures ∙ ap (λ (o : OfSite). get_or o.changes i c.index.result.now) c.self.view_is in
    let some : filter (has (places c.index.result.now.1)) c.self.inside.places ≡ counted_of seen of =
    ap (λ (o : OfSite). filter (has (places c.index.result.now.1)) o.places) c.self.view_is
    ∙ counted_cut of c.requires c.count-number.result i (point of c.count-number.result i c.deref.result.now changes c.requires c.partition_point-counted.ensures.partitioned (λ a r f k. search (rules, of_calls)))
    c.index.result.now c.index.result.now.1 within (ap (λ (s : ℕ × ℕ). s.1) first)
    ∙ ap (λ n. map (λ (s : ℕ × ℕ). s.1) (filter (λ (s : ℕ × ℕ). nat_le s.0 n) of.changes)) number in
    subst (λ (l : List ℕ). OnOk c.insert_below.result (c.insert_below.new.self ≡ with_places c.args.known.now l)) some c.insert_below.ensures
