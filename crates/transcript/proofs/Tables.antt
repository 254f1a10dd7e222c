-- The tables of lines in order: what they tell of another line, and what they are with it.
use Rattle.std.proofs.Common.{◌≡◌, inl, inr, ℕ, ◌+◌, ◌<◌, ◌≤◌, ◌≢◌, Bool, true, false, cond, List, [], ◌∷◌, ◌++◌, length, get_or, set, refl, sym, ap, not, subst, ◌∙◌, arith, get_or-set_same, get_or-set_other, length-set, length-append}
use Rattle.std.specs.Prelude.{◌↔◌, All}
use Rattle.std.specs.Bool.{Decides}
use Rattle.std.proofs.lemmas.Bool.Decides.{eqb_tells, nat_tests}
use Rattle.std.proofs.lemmas.List.{get_or_append_left}
use Rattle.std.proofs.lemmas.List.Elements.{All-push}
use Rattle.std.proofs.lemmas.List.Quantifiers.{all_pairs_push}
use Rattle.std.proofs.Math.Seq.{get_or-append_seam}
use Rattle.base_types.specs.Names.{is_site}
use Rattle.base_types.specs.declared.op_name.TheConstants.{MAX_SITE}
use Rattle.transcript.specs.declared.line.TranscriptLine.{TranscriptLine}
use Rattle.transcript.specs.Lines.{IsLine, entries_after}
use Rattle.wire.specs.Replies.{adds, at_of}
use Rattle.transcript.specs.Order.{IsInOrder, IsNext}
use Rattle.transcript.specs.steps.OrderedParts.{AreInOrder}
use Rattle.transcript.specs.steps.Tables.{OrderedLines, IsReached, IsFree, AreTables}

pub site_fits : (line : TranscriptLine) → IsLine line → line.site ≤ MAX_SITE
site_fits line h = let site : is_site line.site ≡ true = h.site in grind (arith, nat_tests)

-- ---- what they tell

pub next_when : (ordered : OrderedLines) (reached : List ℕ) (claimed : List Bool) (line : TranscriptLine) → AreTables ordered reached claimed → IsLine line
    → at_of line.reply ≤ ordered.count → get_or reached line.site 0 ≤ at_of line.reply → (adds line.reply ≡ true → get_or claimed (at_of line.reply) false ≡ false) → IsNext ordered.count ordered.lines line
next_when ordered reached claimed line t h within reaches free = record {
  within = within;
  order = λ k d l. record {
    places = λ earlier later. (t.frees (at_of line.reply) within).0 (free later) k d l earlier;
    rises = λ same. (t.reaches line.site (at_of line.reply) (site_fits line h)).0 reaches k d l same;
  };
}

pub next_reaches : (ordered : OrderedLines) (reached : List ℕ) (claimed : List Bool) (line : TranscriptLine) → AreTables ordered reached claimed → IsLine line
    → IsNext ordered.count ordered.lines line → get_or reached line.site 0 ≤ at_of line.reply
next_reaches ordered reached claimed line t h next = (t.reaches line.site (at_of line.reply) (site_fits line h)).1 (λ k d l same. (next.order k d l).rises same)

pub next_frees : (ordered : OrderedLines) (reached : List ℕ) (claimed : List Bool) (line : TranscriptLine) → AreTables ordered reached claimed
    → IsNext ordered.count ordered.lines line → adds line.reply ≡ true → get_or claimed (at_of line.reply) false ≡ false
next_frees ordered reached claimed line t next adding = (t.frees (at_of line.reply) next.within).1 (λ k d l earlier. (next.order k d l).places earlier adding)

-- at is the line's, in the bounds of both tables; r is whether the place of an entry that it adds is claimed
claim_tells : (ordered : OrderedLines) (reached : List ℕ) (claimed : List Bool) (line : TranscriptLine) → AreTables ordered reached claimed → IsLine line
    → at_of line.reply ≤ ordered.count → get_or reached line.site 0 ≤ at_of line.reply
    → (added r : Bool) → added ≡ adds line.reply → (added ≡ true → r ≡ get_or claimed (at_of line.reply) false) → (added ≡ false → r ≡ false)
    → Decides (not r) (IsNext ordered.count ordered.lines line)
claim_tells ordered reached claimed line t h within left true true is claim none = (
  λ e. absurd (cc),
  λ next. let free : get_or claimed (at_of line.reply) false ≡ false = next_frees ordered reached claimed line t next (sym is) in let e : true ≡ get_or claimed (at_of line.reply) false = claim refl in absurd (cc),
)
claim_tells ordered reached claimed line t h within left true false is claim none = (λ e. next_when ordered reached claimed line t h within left (λ adding. sym (claim refl)), λ next. refl)
claim_tells ordered reached claimed line t h within left false true is claim none = let e : true ≡ false = none refl in absurd (cc)
claim_tells ordered reached claimed line t h within left false false is claim none = (λ e. next_when ordered reached claimed line t h within left (λ adding. absurd (cc)), λ next. refl)

pub line_tells : (ordered : OrderedLines) (reached : List ℕ) (claimed : List Bool) (line : TranscriptLine) → AreTables ordered reached claimed → IsLine line
    → (at : ℕ) → at ≡ at_of line.reply → at ≤ ordered.count → get_or reached line.site 0 ≤ at
    → (added r : Bool) → added ≡ adds line.reply → (added ≡ true → r ≡ get_or claimed at false) → (added ≡ false → r ≡ false)
    → Decides (not r) (IsNext ordered.count ordered.lines line)
line_tells ordered reached claimed line t h at is within left added r adding claim none =
    claim_tells ordered reached claimed line t h (omega arith) (omega arith) added r adding (λ e. claim e ∙ ap (λ (p : ℕ). get_or claimed p false) is) none

-- ---- with another line

all_front : {X : Type 0} (P : X → Type 0) (xs : List X) (y : X) → All P (xs ++ y ∷ []) → All P xs
all_front P xs y h k d l = subst P (get_or_append_left xs (y ∷ []) d k l) (h k d (omega (arith, length-append xs (y ∷ []))))

all_last : {X : Type 0} (P : X → Type 0) (xs : List X) (y : X) → All P (xs ++ y ∷ []) → P y
all_last P xs y h = subst P (get_or-append_seam xs y [] y) (h (length xs) y (omega (arith, length-append xs (y ∷ []))))

rest_from : (reply_at after : ℕ) → reply_at ≤ after → (n at : ℕ) → n ≤ reply_at → after ≤ at → n ≤ at
rest_from reply_at after h n at f g = omega arith

by_added : (added : Bool) (at : ℕ) → at ≤ cond added (at + 1) at
by_added true at = omega arith
by_added false at = omega arith

after_at : (line : TranscriptLine) → at_of line.reply ≤ entries_after line.reply
after_at line = by_added (adds line.reply) (at_of line.reply)

pub order_push : (ordered : OrderedLines) (line : TranscriptLine) → AreInOrder ordered.count ordered.lines → IsNext ordered.count ordered.lines line → AreInOrder ordered.count (ordered.lines ++ line ∷ [])
order_push ordered line h next = record {
  within = All-push (λ l. at_of l.reply ≤ ordered.count) ordered.lines line h.within next.within;
  order = all_pairs_push IsInOrder ordered.lines line h.order (λ k d l. next.order k d l);
}

reaches_same : (ordered : OrderedLines) (line : TranscriptLine) (site at : ℕ) → site ≡ line.site → IsNext ordered.count ordered.lines line → (entries_after line.reply ≤ at) ↔ IsReached (ordered.lines ++ line ∷ []) site at
reaches_same ordered line site at same next = (
  λ left. All-push (λ l. l.site ≡ site → entries_after l.reply ≤ at) ordered.lines line
      (λ k d l is. rest_from (at_of line.reply) (entries_after line.reply) (after_at line) (entries_after (get_or ordered.lines k d).reply) at ((next.order k d l).rises (is ∙ same)) left)
      (λ is. left),
  λ all. all_last (λ l. l.site ≡ site → entries_after l.reply ≤ at) ordered.lines line all (sym same),
)

reaches_other : (lines : List TranscriptLine) (line : TranscriptLine) (site at : ℕ) → site ≢ line.site → (P : Type 0) → P ↔ IsReached lines site at → P ↔ IsReached (lines ++ line ∷ []) site at
reaches_other lines line site at other P tells = (
  λ p. All-push (λ l. l.site ≡ site → entries_after l.reply ≤ at) lines line (tells.0 p) (λ is. absurd (other (sym is))),
  λ all. tells.1 (all_front (λ l. l.site ≡ site → entries_after l.reply ≤ at) lines line all),
)

reaches_push : (ordered : OrderedLines) (reached : List ℕ) (line : TranscriptLine) → line.site < length reached
    → ((site at : ℕ) → site ≤ MAX_SITE → (get_or reached site 0 ≤ at) ↔ IsReached ordered.lines site at) → IsNext ordered.count ordered.lines line
    → (site at : ℕ) → site ≤ MAX_SITE → (get_or (set reached line.site (entries_after line.reply)) site 0 ≤ at) ↔ IsReached (ordered.lines ++ line ∷ []) site at
reaches_push ordered reached line fits tells next site at low = elim (eqb_tells site line.site) [
  | inl h ↦ subst (λ (n : ℕ). (n ≤ at) ↔ IsReached (ordered.lines ++ line ∷ []) site at)
      (sym (subst (λ (s : ℕ). get_or (set reached line.site (entries_after line.reply)) s 0 ≡ entries_after line.reply) (sym h.1) (get_or-set_same reached line.site (entries_after line.reply) 0 fits)))
      (reaches_same ordered line site at h.1 next)
  | inr h ↦ subst (λ (n : ℕ). (n ≤ at) ↔ IsReached (ordered.lines ++ line ∷ []) site at)
      (sym (get_or-set_other reached line.site site (entries_after line.reply) 0 h.1))
      (reaches_other ordered.lines line site at h.1 (get_or reached site 0 ≤ at) (tells site at low))
]

frees_other : (lines : List TranscriptLine) (line : TranscriptLine) (place : ℕ) → (adds line.reply ≡ true → at_of line.reply ≢ place) → (P : Type 0) → P ↔ IsFree lines place → P ↔ IsFree (lines ++ line ∷ []) place
frees_other lines line place other P tells = (
  λ p. All-push (λ l. adds l.reply ≡ true → at_of l.reply ≢ place) lines line (tells.0 p) other,
  λ all. tells.1 (all_front (λ l. adds l.reply ≡ true → at_of l.reply ≢ place) lines line all),
)

frees_same : (lines : List TranscriptLine) (line : TranscriptLine) (place : ℕ) → adds line.reply ≡ true → place ≡ at_of line.reply → (true ≡ false) ↔ IsFree (lines ++ line ∷ []) place
frees_same lines line place adding same = (
  λ e. absurd (cc),
  λ all. absurd (all_last (λ l. adds l.reply ≡ true → at_of l.reply ≢ place) lines line all adding (sym same)),
)

frees_push : (ordered : OrderedLines) (claimed : List Bool) (line : TranscriptLine) → at_of line.reply < length claimed → adds line.reply ≡ true
    → ((place : ℕ) → place ≤ ordered.count → (get_or claimed place false ≡ false) ↔ IsFree ordered.lines place)
    → (place : ℕ) → place ≤ ordered.count → (get_or (set claimed (at_of line.reply) true) place false ≡ false) ↔ IsFree (ordered.lines ++ line ∷ []) place
frees_push ordered claimed line fits adding tells place low = elim (eqb_tells place (at_of line.reply)) [
  | inl h ↦ subst (λ (b : Bool). (b ≡ false) ↔ IsFree (ordered.lines ++ line ∷ []) place)
      (sym (subst (λ (p : ℕ). get_or (set claimed (at_of line.reply) true) p false ≡ true) (sym h.1) (get_or-set_same claimed (at_of line.reply) true false fits)))
      (frees_same ordered.lines line place adding h.1)
  | inr h ↦ subst (λ (b : Bool). (b ≡ false) ↔ IsFree (ordered.lines ++ line ∷ []) place)
      (sym (get_or-set_other claimed (at_of line.reply) place true false h.1))
      (frees_other ordered.lines line place (λ _ is. h.1 (sym is)) (get_or claimed place false ≡ false) (tells place low))
]

-- a line that added an entry
pub tables_claimed : (ordered : OrderedLines) (reached : List ℕ) (claimed : List Bool) (line : TranscriptLine) → AreTables ordered reached claimed → IsLine line → IsNext ordered.count ordered.lines line → adds line.reply ≡ true
    → AreTables (record { count = ordered.count; lines = ordered.lines ++ line ∷ [] }) (set reached line.site (entries_after line.reply)) (set claimed (at_of line.reply) true)
tables_claimed ordered reached claimed line t h next adding =
    let low : line.site ≤ MAX_SITE = site_fits line h in
    let within : at_of line.reply ≤ ordered.count = next.within in
    let sites : length reached ≡ MAX_SITE + 1 = t.sites in
    let places : length claimed ≡ ordered.count + 1 = t.places in
    record {
      sites = length-set reached line.site (entries_after line.reply) ∙ t.sites;
      places = length-set claimed (at_of line.reply) true ∙ t.places;
      reaches = reaches_push ordered reached line (omega arith) t.reaches next;
      frees = frees_push ordered claimed line (omega arith) adding t.frees;
      order = order_push ordered line t.order next;
    }

-- a line that added none
pub tables_unclaimed : (ordered : OrderedLines) (reached : List ℕ) (claimed : List Bool) (line : TranscriptLine) → AreTables ordered reached claimed → IsLine line → IsNext ordered.count ordered.lines line → adds line.reply ≡ false
    → AreTables (record { count = ordered.count; lines = ordered.lines ++ line ∷ [] }) (set reached line.site (entries_after line.reply)) claimed
tables_unclaimed ordered reached claimed line t h next none =
    let low : line.site ≤ MAX_SITE = site_fits line h in
    let sites : length reached ≡ MAX_SITE + 1 = t.sites in
    record {
      sites = length-set reached line.site (entries_after line.reply) ∙ t.sites;
      places = t.places;
      reaches = reaches_push ordered reached line (omega arith) t.reaches next;
      frees = λ place low. frees_other ordered.lines line place (λ adding. absurd (cc)) (get_or claimed place false ≡ false) (t.frees place low);
      order = order_push ordered line t.order next;
    }
