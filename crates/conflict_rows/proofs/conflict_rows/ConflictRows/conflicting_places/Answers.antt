use Rattle.std.proofs.Common.{◌≡◌, ◌<◌, ◌≤◌, ◌∙◌, sym, ap, get_or, subst, length, List, ℕ, arith, []}
use Rattle.std.proofs.lemmas.List.Elements.{All-drop, All-nil}
use Rattle.std.specs.Prelude.{filter, All}
use Rattle.std.proofs.lemmas.Result.{IfOk-weaker}
use Rattle.rules.proofs.Lists.{In, In-filter_back}
use Rattle.places.specs.steps.PlaceSet.{places}
use Rattle.conflict_rows.specs.steps.Rows.{conflicts_below, has_earlier_conflict, with_rows}
use Rattle.rules.specs.Conflicts.{conflict}
use Rattle.places.specs.steps.Changes.{Changes, at, is_conflict_of}
use Rattle.places.proofs.Places.{all_below, all_in, below, in_all}
use Rattle.conflict_rows.proofs.Inherited.{late_rises, skipped}
use Rattle.conflict_rows.proofs.Rows.{row_found, rows_length}
use Rattle.conflict_rows.proofs.InConflict.{all_rows, none_with_others}
use Rattle.conflict_rows.proofs.conflict_rows.ConflictRows.conflicting_places.Goals as goal

pub places_from-requires : goal.places_from-requires
places_from-requires c = late_rises (has_earlier_conflict c.self.inside.ops.items) (length c.self.inside.ops.items) c.deref-2.result.now (c.deref-2.ensures.value ∙ c.self.invariant.late_are)

pub union_of_rows-requires : goal.union_of_rows-requires
union_of_rows-requires c =
    let k = c.self.inside.ops.items in
    let rows : List (List ℕ) = c.deref.result.now in
    let late : List ℕ = c.deref-2.result.now in
    let size : length rows ≡ length k = rows_length k rows (c.deref.ensures.value ∙ c.self.invariant.rows_are) in
    let all : All (λ x. x < length rows) late = subst (λ n. All (λ x. x < n) late) (sym size) (all_below (has_earlier_conflict k) (length k) late (c.deref-2.ensures.value ∙ c.self.invariant.late_are)) in
    subst (All (λ x. x < length rows)) (sym c.places_from.ensures.1) (All-drop (λ x. x < length rows) c.places_from.ensures.0 late all)

pub returns : goal.returns
returns c =
    let k = c.self.inside.ops.items in
    let scope : List ℕ = c.args.scope.now in
    let rows : List (List ℕ) = c.deref.result.now in
    let late : List ℕ = c.deref-2.result.now in
    let rows_are = c.deref.ensures.value ∙ c.self.invariant.rows_are in
    let lowest = c.in-Some.lowest in
    let few : lowest < length k = (let count = c.len.ensures in omega (arith, count, c.self.inside.ops.ok.0, c.if-lowest-len.false)) in
    let earlier : (p : ℕ) → p < lowest → (x : ℕ) → In x (get_or rows p []) → x < p = λ p l x m.
    below p x (In-filter_back (λ other. conflict k (at k p) (at k other)) x (places p) (subst (In x) (row_found k rows p [] rows_are (omega (arith, l, few))) m)).0 in
    IfOk-weaker c.union_of_rows.result _ _ (λ conflicting r.
    subst (λ (s : Changes). conflicting ≡ filter (conflicts_below (is_conflict_of s.ops) scope (length s.ops)) (places (length s.ops))) c.self.view_is
    (r ∙ ap (with_rows scope rows []) c.places_from.ensures.1 ∙ skipped scope rows lowest c.in-Some.ensures.1 earlier late c.places_from.ensures.0 c.places_from.ensures.2 ∙ all_rows k c.self.invariant.changes scope rows rows_are late (c.deref-2.ensures.value ∙ c.self.invariant.late_are))) c.union_of_rows.ensures

pub returns-in_default : goal.returns-in_default
returns-in_default c =
    let k = c.args.self.now.ops in
    let above : All (λ place. length k ≤ place) c.args.scope.now = subst (λ scope. All (λ place. length k ≤ place) scope) (sym c.in_default.ensures) (All-nil (λ place. length k ≤ place)) in
    c.empty.ensures ∙ sym (none_with_others (is_conflict_of k) c.args.scope.now (length k) above (places (length k)))

pub returns-then-lowest-len : goal.returns-then-lowest-len
returns-then-lowest-len c =
    let k = c.args.self.now.ops in
    let count : c.len.result ≡ length k = omega (arith, c.len.ensures, c.self.inside.ops.ok.0, ap (λ (s : Changes). length s.ops) c.self.view_is) in
    let above : All (λ place. length k ≤ place) c.args.scope.now =
    all_in (λ place. length k ≤ place) c.args.scope.now (λ place m.
    let least = in_all (λ other. c.in-Some.lowest ≤ other) c.args.scope.now c.in-Some.ensures.1 place m in omega (arith, least, count, c.if-lowest-len.true)) in
    c.empty-then-lowest-len.ensures ∙ sym (none_with_others (is_conflict_of k) c.args.scope.now (length k) above (places (length k)))
