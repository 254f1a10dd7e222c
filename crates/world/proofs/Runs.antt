-- The replies side by side are those of each room alone.
use Rattle.std.proofs.Common.{◌≡◌, ◌+◌, ℕ, List, [], ◌∷◌, ◌++◌, append-nil, length, take, get_or, ◌<◌, map, Option, Some, None, Bool, true, false, cond, eqb, suc, refl, sym, ap, subst, ◌∙◌, arith}
use Rattle.std.specs.List.{cons_option}
use Rattle.std.proofs.lemmas.Bool.{eq-eqb, eqb-true}
use Rattle.std.proofs.lemmas.List.{length_push, take_more, map-append}
use Rattle.wire.specs.Texts.{reply_text}
use Rattle.world.specs.Alone.{Message, Alone, alone_run, alone_reply, alone_after}
use Rattle.world.specs.Rooms.{Rooms, owner_of, after_at, rooms_after, lone_reply, owners, of_owner}
use Rattle.world.specs.steps.Ends.{rooms_end, alone_texts, alone_end, reply_at, reply_to, texts}
use Rattle.world.specs.steps.State.{WorldState, names_of, rooms_of}
use Rattle.world.specs.steps.OwnerShown.{ShowsGroups, AllShowGroups}
use Rattle.world.specs.Run.{IsRun}
use Rattle.world.specs.Shown.{Shows, AllShow}
use Rattle.room_core.specs.Shown.{HasObject}
use Rattle.world.specs.steps.Runs.{answered_messages, answer_texts, IsStep, AnswersSomeOf}

-- ---- one more message

texts_push : (names : List (List ℕ)) (rooms : Rooms) (all : List Message) (message : Message)
    → texts names rooms (all ++ message ∷ []) ≡ texts names rooms all ++ reply_text (reply_to names (rooms_end names rooms all) message) ∷ []
texts_push names rooms [] message = refl
texts_push names rooms (m ∷ all) message = ap (λ xs. reply_text (reply_to names rooms m) ∷ xs) (texts_push names (rooms_after names rooms m) all message)

rooms_end_push : (names : List (List ℕ)) (rooms : Rooms) (all : List Message) (message : Message)
    → rooms_end names rooms (all ++ message ∷ []) ≡ rooms_after names (rooms_end names rooms all) message
rooms_end_push names rooms [] message = refl
rooms_end_push names rooms (m ∷ all) message = rooms_end_push names (rooms_after names rooms m) all message

answered_push : (all : List Message) (answers : List (Option (List ℕ))) (message : Message) (answer : Option (List ℕ)) → length answers ≡ length all
    → answered_messages (all ++ message ∷ []) (answers ++ answer ∷ []) ≡ answered_messages all answers ++ answered_messages (message ∷ []) (answer ∷ [])
answered_push [] [] message answer e = refl
answered_push [] (a ∷ answers) message answer e = absurd (omega (arith, e))
answered_push (m ∷ all) [] message answer e = absurd (omega (arith, e))
answered_push (m ∷ all) (None ∷ answers) message answer e = answered_push all answers message answer (omega (arith, e))
answered_push (m ∷ all) (Some text ∷ answers) message answer e = ap (λ xs. m ∷ xs) (answered_push all answers message answer (omega (arith, e)))

answer_texts_push : (answers : List (Option (List ℕ))) (answer : Option (List ℕ)) → answer_texts (answers ++ answer ∷ []) ≡ answer_texts answers ++ answer_texts (answer ∷ [])
answer_texts_push [] answer = refl
answer_texts_push (None ∷ answers) answer = answer_texts_push answers answer
answer_texts_push (Some text ∷ answers) answer = ap (λ xs. text ∷ xs) (answer_texts_push answers answer)

-- ---- one room of them

abbrev AloneAt : List (List ℕ) → ℕ → Rooms → List Message → Type 0
AloneAt names place rooms all = of_owner (Some place) (owners names rooms all) (texts names rooms all) ≡ alone_texts (rooms.alone place) (of_owner (Some place) (owners names rooms all) all)

room_by : (b : Bool) (rooms : Rooms) (message : Message) (owner place : ℕ) (later : List (List ℕ)) (others : List Message) → eqb owner place ≡ b
    → later ≡ alone_texts ((after_at rooms message (Some owner)).alone place) others
    → cons_option (cond b (Some (reply_text (alone_reply (rooms.alone owner) message))) None) later ≡ alone_texts (rooms.alone place) (cons_option (cond b (Some message) None) others)
room_by true rooms message owner place later others e ih =
    let same = eqb-true owner place e in
    ap (λ k. reply_text (alone_reply (rooms.alone k) message) ∷ later) same
    ∙ ap (λ xs. reply_text (alone_reply (rooms.alone place) message) ∷ xs)
    (ih ∙ ap (λ t. alone_texts (cond t (alone_after (rooms.alone owner) message) (rooms.alone place)) others) e ∙ ap (λ k. alone_texts (alone_after (rooms.alone k) message) others) same)
room_by false rooms message owner place later others e ih =
    ih ∙ ap (λ t. alone_texts (cond t (alone_after (rooms.alone owner) message) (rooms.alone place)) others) e

alone_step : (names : List (List ℕ)) (place : ℕ) (rooms : Rooms) (message : Message) (all : List Message) (owner : Option ℕ) → AloneAt names place (after_at rooms message owner) all
    → of_owner (Some place) (owner ∷ owners names (after_at rooms message owner) all) (reply_text (reply_at rooms message owner) ∷ texts names (after_at rooms message owner) all)
    ≡ alone_texts (rooms.alone place) (of_owner (Some place) (owner ∷ owners names (after_at rooms message owner) all) (message ∷ all))
alone_step names place rooms message all None ih = ih
alone_step names place rooms message all (Some owner) ih = room_by (eqb owner place) rooms message owner place _ _ refl ih

-- the replies to a room's messages are those of the room alone
pub alone_law : (names : List (List ℕ)) (place : ℕ) (rooms : Rooms) (all : List Message) → AloneAt names place rooms all
alone_law names place rooms [] = refl
alone_law names place rooms (message ∷ all) = alone_step names place rooms message all (owner_of names rooms message) (alone_law names place (rooms_after names rooms message) all)

abbrev EndAt : List (List ℕ) → ℕ → Rooms → List Message → Type 0
EndAt names place rooms all = (rooms_end names rooms all).alone place ≡ alone_end (rooms.alone place) (of_owner (Some place) (owners names rooms all) all)

end_by : (b : Bool) (rooms : Rooms) (message : Message) (owner place : ℕ) (last : Alone) (others : List Message) → eqb owner place ≡ b
    → last ≡ alone_end ((after_at rooms message (Some owner)).alone place) others
    → last ≡ alone_end (rooms.alone place) (cons_option (cond b (Some message) None) others)
end_by true rooms message owner place last others e ih =
    ih ∙ ap (λ t. alone_end (cond t (alone_after (rooms.alone owner) message) (rooms.alone place)) others) e ∙ ap (λ k. alone_end (alone_after (rooms.alone k) message) others) (eqb-true owner place e)
end_by false rooms message owner place last others e ih =
    ih ∙ ap (λ t. alone_end (cond t (alone_after (rooms.alone owner) message) (rooms.alone place)) others) e

end_step : (names : List (List ℕ)) (place : ℕ) (rooms : Rooms) (message : Message) (all : List Message) (owner : Option ℕ) → EndAt names place (after_at rooms message owner) all
    → (rooms_end names (after_at rooms message owner) all).alone place ≡ alone_end (rooms.alone place) (of_owner (Some place) (owner ∷ owners names (after_at rooms message owner) all) (message ∷ all))
end_step names place rooms message all None ih = ih
end_step names place rooms message all (Some owner) ih = end_by (eqb owner place) rooms message owner place _ _ refl ih

pub end_law : (names : List (List ℕ)) (place : ℕ) (rooms : Rooms) (all : List Message) → EndAt names place rooms all
end_law names place rooms [] = refl
end_law names place rooms (message ∷ all) = end_step names place rooms message all (owner_of names rooms message) (end_law names place (rooms_after names rooms message) all)

abbrev LoneAt : List (List ℕ) → Rooms → List Message → Type 0
LoneAt names rooms all = of_owner None (owners names rooms all) (texts names rooms all) ≡ map (λ message. reply_text (lone_reply message)) (of_owner None (owners names rooms all) all)

lone_step : (names : List (List ℕ)) (rooms : Rooms) (message : Message) (all : List Message) (owner : Option ℕ) → LoneAt names (after_at rooms message owner) all
    → of_owner None (owner ∷ owners names (after_at rooms message owner) all) (reply_text (reply_at rooms message owner) ∷ texts names (after_at rooms message owner) all)
    ≡ map (λ message. reply_text (lone_reply message)) (of_owner None (owner ∷ owners names (after_at rooms message owner) all) (message ∷ all))
lone_step names rooms message all None ih = ap (λ xs. reply_text (lone_reply message) ∷ xs) ih
lone_step names rooms message all (Some owner) ih = ih

lone_law : (names : List (List ℕ)) (rooms : Rooms) (all : List Message) → LoneAt names rooms all
lone_law names rooms [] = refl
lone_law names rooms (message ∷ all) = lone_step names rooms message all (owner_of names rooms message) (lone_law names (rooms_after names rooms message) all)

-- ---- what they show

length-texts : (names : List (List ℕ)) (rooms : Rooms) (all : List Message) → length (texts names rooms all) ≡ length all
length-texts names rooms [] = refl
length-texts names rooms (m ∷ all) = ap (λ n. suc n) (length-texts names (rooms_after names rooms m) all)

all_show_push : (names : List (List ℕ)) (rooms : Rooms) (all : List Message) (ts : List (List ℕ)) (message : Message) (text : List ℕ) → length ts ≡ length all
    → AllShowGroups names rooms all ts → ShowsGroups names (rooms_end names rooms all) message text → AllShowGroups names rooms (all ++ message ∷ []) (ts ++ text ∷ [])
all_show_push names rooms [] [] message text e all_show shows = (shows, tt)
all_show_push names rooms [] (t ∷ ts) message text e all_show shows = absurd (omega (arith, e))
all_show_push names rooms (m ∷ all) [] message text e all_show shows = absurd (omega (arith, e))
all_show_push names rooms (m ∷ all) (t ∷ ts) message text e all_show shows =
    (all_show.0, all_show_push names (rooms_after names rooms m) all ts message text (omega (arith, e)) all_show.1 shows)

-- ---- what each room alone shows

after_shows : (names : List (List ℕ)) (rooms : Rooms) (message : Message) (owner : ℕ) (text : List ℕ) → owner_of names rooms message ≡ Some owner → ShowsGroups names rooms message text
    → Shows (alone_after (rooms.alone owner) message).room text
after_shows names rooms message owner text is shows at object kind versions read =
    let there = shows at object kind versions read in
    let places : Some there.place ≡ Some owner = sym there.owner ∙ is in
    let same : there.place ≡ owner = cc in
    let moved : (rooms_after names rooms message).alone there.place ≡ alone_after (rooms.alone owner) message =
    ap (λ (o : Option ℕ). (after_at rooms message o).alone there.place) is
    ∙ ap (λ k. cond (eqb owner k) (alone_after (rooms.alone owner) message) (rooms.alone k)) same
    ∙ ap (λ b. cond b (alone_after (rooms.alone owner) message) (rooms.alone owner)) (eq-eqb owner owner refl) in
    subst (λ (a : Alone). HasObject a.room at object kind versions) moved there.has

show_by : (b : Bool) (names : List (List ℕ)) (rooms : Rooms) (message : Message) (owner place : ℕ) (others : List Message) → eqb owner place ≡ b → owner_of names rooms message ≡ Some owner
    → ShowsGroups names rooms message (reply_text (alone_reply (rooms.alone owner) message))
    → AllShow ((after_at rooms message (Some owner)).alone place) others
    → AllShow (rooms.alone place) (cons_option (cond b (Some message) None) others)
show_by true names rooms message owner place others e is shows ih =
    let same = eqb-true owner place e in (
      subst (λ k. Shows (alone_after (rooms.alone k) message).room (reply_text (alone_reply (rooms.alone k) message))) same (after_shows names rooms message owner _ is shows),
      subst (λ k. AllShow (alone_after (rooms.alone k) message) others) same (subst (λ t. AllShow (cond t (alone_after (rooms.alone owner) message) (rooms.alone place)) others) e ih),
    )
show_by false names rooms message owner place others e is shows ih =
    subst (λ t. AllShow (cond t (alone_after (rooms.alone owner) message) (rooms.alone place)) others) e ih

show_step : (names : List (List ℕ)) (place : ℕ) (rooms : Rooms) (message : Message) (all : List Message) (owner : Option ℕ) → owner_of names rooms message ≡ owner
    → ShowsGroups names rooms message (reply_text (reply_at rooms message owner))
    → AllShow ((after_at rooms message owner).alone place) (of_owner (Some place) (owners names (after_at rooms message owner) all) all)
    → AllShow (rooms.alone place) (of_owner (Some place) (owner ∷ owners names (after_at rooms message owner) all) (message ∷ all))
show_step names place rooms message all None is shows ih = ih
show_step names place rooms message all (Some owner) is shows ih = show_by (eqb owner place) names rooms message owner place _ refl is shows ih

shows_alone : (names : List (List ℕ)) (place : ℕ) (rooms : Rooms) (all : List Message) → AllShowGroups names rooms all (texts names rooms all)
    → AllShow (rooms.alone place) (of_owner (Some place) (owners names rooms all) all)
shows_alone names place rooms [] h = tt
shows_alone names place rooms (message ∷ all) h =
    show_step names place rooms message all (owner_of names rooms message) refl h.0 (shows_alone names place (rooms_after names rooms message) all h.1)

-- ---- a run

run_is : (alone : Alone) (messages : List Message) → alone_run alone messages ≡ (alone_texts alone messages, alone_end alone messages)
run_is alone [] = refl
run_is alone (message ∷ messages) = ap (λ (later : List (List ℕ) × Alone). (reply_text (alone_reply alone message) ∷ later.0, later.1)) (run_is (alone_after alone message) messages)

pub run_from : (old new : WorldState) (messages : List Message) (ts : List (List ℕ)) → ts ≡ texts (names_of old) (rooms_of old) messages
    → AllShowGroups (names_of old) (rooms_of old) messages ts → rooms_of new ≡ rooms_end (names_of old) (rooms_of old) messages → IsRun (names_of old) (rooms_of old) messages ts (rooms_of new)
run_from old new messages ts replies shown rooms =
    let names = names_of old in
    let start = rooms_of old in
    record {
      count = ap length replies ∙ length-texts names start messages;
      alone = λ place.
          let first = start.alone place in
          let mine = of_owner (Some place) (owners names start messages) messages in
          ap (λ (xs : List (List ℕ)). (xs, (rooms_of new).alone place)) (ap (of_owner (Some place) (owners names start messages)) replies ∙ alone_law names place start messages)
          ∙ ap (λ (last : Alone). (alone_texts first mine, last)) (ap (λ (r : Rooms). r.alone place) rooms ∙ end_law names place start messages)
          ∙ sym (run_is first mine);
      lone = ap (of_owner None (owners names start messages)) replies ∙ lone_law names start messages;
      shown = λ place. shows_alone names place start messages (subst (AllShowGroups names start messages) replies shown);
      rooms = rooms;
    }

-- ---- a run so far

pub record SoFar (old : WorldState) (all : List Message) (answers : List (Option (List ℕ))) (new : WorldState) : Type 0 where
  pub count : length answers ≡ length all
  pub names : names_of new ≡ names_of old
  pub replies : answer_texts answers ≡ texts (names_of old) (rooms_of old) (answered_messages all answers)
  pub shown : AllShowGroups (names_of old) (rooms_of old) (answered_messages all answers) (answer_texts answers)
  pub rooms : rooms_of new ≡ rooms_end (names_of old) (rooms_of old) (answered_messages all answers)

pub so_far_answered : (old mid new : WorldState) (all : List Message) (answers : List (Option (List ℕ))) (message : Message) (text : List ℕ) → SoFar old all answers mid
    → IsStep mid message text new → SoFar old (all ++ message ∷ []) (answers ++ Some text ∷ []) new
so_far_answered old mid new all answers message text h answer =
    let names = names_of old in
    let start = rooms_of old in
    let messages = answered_messages all answers in
    let both = answered_push all answers message (Some text) h.count in
    let as_many : length (answer_texts answers) ≡ length messages = ap length h.replies ∙ length-texts names start messages in
    let shows : ShowsGroups names (rooms_end names start messages) message text =
    subst (λ r. ShowsGroups names r message text) h.rooms (subst (λ ns. ShowsGroups ns (rooms_of mid) message text) h.names answer.shown) in
    record {
      count = length_push answers (Some text) ∙ ap (λ n. n + 1) h.count ∙ sym (length_push all message);
      names = answer.names ∙ h.names;
      replies =
          answer_texts_push answers (Some text)
          ∙ ap (λ xs. xs ++ text ∷ []) h.replies
          ∙ ap (λ t. texts names start messages ++ t ∷ [])
          (answer.is_text ∙ ap (λ ns. reply_text (reply_to ns (rooms_of mid) message)) h.names ∙ ap (λ r. reply_text (reply_to names r message)) h.rooms)
          ∙ sym (texts_push names start messages message)
          ∙ ap (texts names start) (sym both);
      shown =
          subst (λ ms. AllShowGroups names start ms (answer_texts (answers ++ Some text ∷ []))) (sym both)
          (subst (AllShowGroups names start (messages ++ message ∷ [])) (sym (answer_texts_push answers (Some text)))
          (all_show_push names start messages (answer_texts answers) message text as_many h.shown shows));
      rooms =
          answer.rooms ∙ ap (λ ns. rooms_after ns (rooms_of mid) message) h.names ∙ ap (λ r. rooms_after names r message) h.rooms
          ∙ sym (rooms_end_push names start messages message)
          ∙ ap (rooms_end names start) (sym both);
    }

pub so_far_refused : (old mid new : WorldState) (all : List Message) (answers : List (Option (List ℕ))) (message : Message) → SoFar old all answers mid → new ≡ mid
    → SoFar old (all ++ message ∷ []) (answers ++ None ∷ []) new
so_far_refused old mid new all answers message h same =
    let both = answered_push all answers message None h.count ∙ append-nil (answered_messages all answers) in
    let texts_are = answer_texts_push answers None ∙ append-nil (answer_texts answers) in
    record {
      count = length_push answers None ∙ ap (λ n. n + 1) h.count ∙ sym (length_push all message);
      names = ap names_of same ∙ h.names;
      replies = texts_are ∙ h.replies ∙ ap (texts (names_of old) (rooms_of old)) (sym both);
      shown =
          subst (λ ms. AllShowGroups (names_of old) (rooms_of old) ms (answer_texts (answers ++ None ∷ []))) (sym both)
          (subst (AllShowGroups (names_of old) (rooms_of old) (answered_messages all answers)) (sym texts_are) h.shown);
      rooms = ap rooms_of same ∙ h.rooms ∙ ap (rooms_end (names_of old) (rooms_of old)) (sym both);
    }

pub answers_of : (old : WorldState) (all : List Message) (answers : List (Option (List ℕ))) (new : WorldState) → SoFar old all answers new → AnswersSomeOf old all answers new
answers_of old all answers new h = record {
  count = h.count;
  run = run_from old new (answered_messages all answers) (answer_texts answers) h.replies h.shown h.rooms;
  names = h.names;
}

-- the lists of the loop, with one more
pub so_far_more : {A B : Type 0} (old new : WorldState) (view : A → Message) (text_of : B → Option (List ℕ)) (items : List A) (i : ℕ) (item : A) (answers longer : List B) (answer : B)
    → longer ≡ answers ++ answer ∷ [] → i < length items → item ≡ get_or items i item
    → SoFar old (map view (take i items) ++ view item ∷ []) (map text_of answers ++ text_of answer ∷ []) new
    → SoFar old (map view (take (i + 1) items)) (map text_of longer) new
so_far_more old new view text_of items i item answers longer answer is_longer within is_item h =
    let all : map view (take (i + 1) items) ≡ map view (take i items) ++ view item ∷ [] =
    ap (map view) (take_more items i item within ∙ ap (λ x. take i items ++ x ∷ []) (sym is_item)) ∙ map-append view (take i items) (item ∷ []) in
    let all_texts : map text_of longer ≡ map text_of answers ++ text_of answer ∷ [] = ap (map text_of) is_longer ∙ map-append text_of answers (answer ∷ []) in
    subst (λ xs. SoFar old xs (map text_of longer) new) (sym all) (subst (λ ys. SoFar old (map view (take i items) ++ view item ∷ []) ys new) (sym all_texts) h)
