-- What a script has read and written so far.
use Rattle.std.proofs.Common.{◌≡◌, ℕ, List, [], ◌++◌, take, append-nil, Option, Some, None, IfSome, sym, ap, subst, ◌∙◌}
use Rattle.std.proofs.KnownBytes.{Appends-trans, Consumes-trans, Consumes-kept}
use Rattle.std.specs.Io.KnownBytes.{Appends, Consumes, Keeps, IsAtEnd}
use Rattle.byte_streams.specs.Prefixes.{AppendsPrefix}
use Rattle.wire.specs.Lines.{lines_of}
use Rattle.world.specs.steps.State.{WorldState, names_of, rooms_of}
use Rattle.world.specs.steps.Endings.{Stops, AnswersScript}
use Rattle.world.specs.steps.Answered.{LinesShow, IsPastEnd, Wrote, WroteSome}
use Rattle.world.proofs.ScriptForms.{script_run}
use Rattle.world.proofs.Parts.{wrote_then, wrote_more, stops_of, stops_then, stops_front, stops_at_once, output_after, end_after, shown_after}
use Rattle.world.specs.steps.Ends.{output_of, end_of}

-- of a reader that had r0 and has r now, and a writer that held a and holds b now
pub record ReadSoFar (r0 r a b : Option (List ℕ)) (old now : WorldState) (line : List ℕ) : Type 0 where
  pub taken : List ℕ
  pub consumed : Consumes r0 r taken
  pub wrote : Wrote a b old now taken line []

pub read_more : {r0 r1 r2 a b c : Option (List ℕ)} {old mid new : WorldState} {line longer : List ℕ} (bytes : List ℕ) → ReadSoFar r0 r1 a b old mid line → Consumes r1 r2 bytes
    → Wrote b c mid new (line ++ bytes) longer [] → ReadSoFar r0 r2 a c old new longer
read_more {r0 = r0} {r1 = r1} {r2 = r2} bytes h k t = record {
  taken = h.taken ++ bytes;
  consumed = Consumes-trans r0 r1 r2 _ _ h.consumed k;
  wrote = wrote_then (wrote_more bytes h.wrote) t;
}

pub read_again : {r0 r1 r2 a b : Option (List ℕ)} {old mid : WorldState} {line : List ℕ} → ReadSoFar r0 r1 a b old mid line → Keeps r1 r2 → ReadSoFar r0 r2 a b old mid line
read_again {r0 = r0} {r1 = r1} {r2 = r2} h k = record { taken = h.taken; consumed = Consumes-kept r0 r1 r2 _ h.consumed k; wrote = h.wrote }

-- what is said of all that the reader had
at_whole : (P : List ℕ → Type 0) (r0 r : Option (List ℕ)) (taken : List ℕ) → Consumes r0 r taken → ((rest : List ℕ) → P (taken ++ rest)) → IfSome r0 P
at_whole P None r taken k f = tt
at_whole P (Some all) None taken k f = absurd k
at_whole P (Some all) (Some rest) taken k f = subst P (sym k) (f rest)

at_last : (P : List ℕ → Type 0) (r0 r : Option (List ℕ)) (taken : List ℕ) → Consumes r0 r taken → IsAtEnd r → P (taken ++ []) → IfSome r0 P
at_last P None r taken k e p = tt
at_last P (Some all) None taken k e p = absurd k
at_last P (Some all) (Some rest) taken k e p = subst P (sym (k ∙ ap (λ xs. taken ++ xs) e)) p

-- the run stops here
pub read_stop : {r0 r1 a b : Option (List ℕ)} {old mid : WorldState} {line : List ℕ} → ReadSoFar r0 r1 a b old mid line → IfSome r0 (λ all. Stops a b old mid all)
read_stop {r0 = r0} {r1 = r1} {a = a} {b = b} {old = old} {mid = mid} h = at_whole (λ all. Stops a b old mid all) r0 r1 h.taken h.consumed (λ rest. stops_of rest h.wrote)

pub read_part : {r0 r1 a b c : Option (List ℕ)} (r2 : Option (List ℕ)) {old mid new : WorldState} {line : List ℕ} (bytes : List ℕ) → ReadSoFar r0 r1 a b old mid line → Consumes r1 r2 bytes
    → WroteSome b c mid new (line ++ bytes) → IfSome r0 (λ all. Stops a c old new all)
read_part {r0 = r0} {r1 = r1} {a = a} {c = c} r2 {old = old} {new = new} bytes h k t =
    at_whole (λ all. Stops a c old new all) r0 r2 (h.taken ++ bytes) (Consumes-trans r0 r1 r2 _ _ h.consumed k) (λ rest. stops_of rest (wrote_then (wrote_more bytes h.wrote) t.wrote))

pub stop_front : (r0 a b : Option (List ℕ)) (old new : WorldState) → IfSome r0 (λ all. Stops a b old new all) → IfSome r0 (λ all. AppendsPrefix a b (output_of old all))
stop_front None a b old new h = tt
stop_front (Some all) a b old new h = stops_front h

-- the input ends
module _ {r0 r1 a b : Option (List ℕ)} (r2 : Option (List ℕ)) {old mid : WorldState} {line : List ℕ} (h : ReadSoFar r0 r1 a b old mid line) (k : Consumes r1 r2 []) (e : IsAtEnd r2) where
  at_end : (P : List ℕ → Type 0) → P (h.taken ++ []) → IfSome r0 P
  at_end P p = at_last P r0 r2 h.taken (subst (Consumes r0 r2) (append-nil h.taken) (Consumes-trans r0 r1 r2 _ _ h.consumed k)) e p

  pub read_whole : (c : Option (List ℕ)) (new : WorldState) → Appends b c (output_of mid line) → IsPastEnd mid line new → IfSome r0 (λ all. AnswersScript a c (names_of old) (rooms_of old) all (rooms_of new))
  read_whole c new t past =
      let answered = h.wrote.answered in
      let shown = shown_after answered [] (subst (λ l. LinesShow (names_of mid) (rooms_of mid) (lines_of l)) (sym (append-nil line)) past.shown) in
      let rooms = past.rooms ∙ ap (end_of mid) (sym (append-nil line)) ∙ sym (end_after answered []) in
      at_end (λ all. AnswersScript a c (names_of old) (rooms_of old) all (rooms_of new)) (record {
        text = output_of old (h.taken ++ []);
        adds = subst (Appends a c) (sym (output_after answered [] ∙ ap (λ w. w ++ output_of mid (line ++ [])) (append-nil h.wrote.written) ∙ ap (λ l. h.wrote.written ++ output_of mid l) (append-nil line)))
            (Appends-trans a b c _ _ h.wrote.adds t);
        run = script_run old new (h.taken ++ []) rooms shown;
      })

  pub read_last : (c : Option (List ℕ)) (new : WorldState) → Stops b c mid new line → IfSome r0 (λ all. Stops a c old new all)
  read_last c new t = at_end (λ all. Stops a c old new all) (stops_then [] h.wrote (subst (λ l. Stops b c mid new l) (sym (append-nil line)) t))

-- nothing was read
pub read_nothing : (r a : Option (List ℕ)) (s : WorldState) → IfSome r (λ all. Stops a a s s all)
read_nothing None a s = tt
read_nothing (Some all) a s = stops_at_once a s all

pub read_none : (r1 r2 : Option (List ℕ)) (n : ℕ) (buf : List ℕ) → n ≡ 0 → Consumes r1 r2 (take n buf) → Consumes r1 r2 []
read_none r1 r2 n buf e k = subst (λ m. Consumes r1 r2 (take m buf)) e k
