-- The orders that wait, and which of them a thread may carry out now.
use Rattle.std.specs.Prelude.{◌≡◌, ℕ, ◌+◌, ◌-◌, ◌<◌, nat_lt, if◌then◌else◌, Bool, true, false, Option, Some, None, List, [], ◌∷◌, ◌++◌, length}
use Rattle.base_types.specs.Texts.{Bytes}
use Rattle.keeping.specs.declared.queue.Order.{Order}
use Rattle.keeping.specs.declared.queue.Order.TheVariants.{Keep, Open, Close}

-- the rooms that are to be kept, opened and closed
pub record Waiting : Type 0 where
  pub keeps : List ℕ
  pub opens : List Bytes
  pub closes : List ℕ

-- the orders that wait, how many orders to keep rooms there is space for, how many threads open and
-- close rooms and how many may, whether one closes a room, and whether no room is opened or closed
-- any more
pub record QueueView : Type 0 where
  pub waiting : Waiting
  pub space : ℕ
  pub moving : ℕ
  pub most_moving : ℕ
  pub is_closing : Bool
  pub is_over : Bool

-- no orders, with this space and where so many threads may open and close rooms
abbrev pub no_orders : ℕ → ℕ → QueueView
no_orders space most = record {
  waiting = record { keeps = []; opens = []; closes = [] };
  space = space;
  moving = 0;
  most_moving = most;
  is_closing = false;
  is_over = false;
}

-- one order more, the last of its kind
abbrev with_last : Waiting → Order → Waiting
with_last waiting (Keep place) = record {
  keeps = waiting.keeps ++ place ∷ [];
  opens = waiting.opens;
  closes = waiting.closes;
}
with_last waiting (Open name) = record {
  keeps = waiting.keeps;
  opens = waiting.opens ++ name ∷ [];
  closes = waiting.closes;
}
with_last waiting (Close place) = record {
  keeps = waiting.keeps;
  opens = waiting.opens;
  closes = waiting.closes ++ place ∷ [];
}

-- one order more, if there is one, the first of its kind
abbrev pub with_first : Option Order → Waiting → Waiting
with_first None waiting = waiting
with_first (Some (Keep place)) waiting = record {
  keeps = place ∷ waiting.keeps;
  opens = waiting.opens;
  closes = waiting.closes;
}
with_first (Some (Open name)) waiting = record {
  keeps = waiting.keeps;
  opens = name ∷ waiting.opens;
  closes = waiting.closes;
}
with_first (Some (Close place)) waiting = record {
  keeps = waiting.keeps;
  opens = waiting.opens;
  closes = place ∷ waiting.closes;
}

-- what waits after this order: once all is over, rooms are only kept
abbrev pub waits_after : QueueView → Order → Waiting
waits_after queue (Keep place) = with_last queue.waiting (Keep place)
waits_after queue (Open name) =
    if queue.is_over then queue.waiting else with_last queue.waiting (Open name)
waits_after queue (Close place) =
    if queue.is_over then queue.waiting else with_last queue.waiting (Close place)

-- no memory has to be taken for this order
abbrev pub IsSpaceFor : Order → QueueView → Type 0
IsSpaceFor (Keep place) queue = length queue.waiting.keeps < queue.space
IsSpaceFor (Open name) queue = queue.is_over ≡ true
IsSpaceFor (Close place) queue = queue.is_over ≡ true

-- of the rooms to open and to close, and by whether one is being closed, the first
abbrev first_move : List Bytes → List ℕ → Bool → Option Order
first_move (name ∷ opens) closes closing = Some (Open name)
first_move [] (place ∷ closes) false = Some (Close place)
first_move [] (place ∷ closes) true = None
first_move [] [] closing = None

-- the next order to open or close a room, if one thread more may
abbrev pub next_move : QueueView → Option Order
next_move queue =
    if nat_lt queue.moving queue.most_moving
    then first_move queue.waiting.opens queue.waiting.closes queue.is_closing
    else None

-- the first order to keep a room, or else that one
abbrev keep_or : List ℕ → Option Order → Option Order
keep_or (place ∷ keeps) order = Some (Keep place)
keep_or [] order = order

-- the next order that a thread may carry out now
abbrev pub next_order : QueueView → Option Order
next_order queue = keep_or queue.waiting.keeps (next_move queue)

-- how many threads more open and close rooms, once one has this order
abbrev pub threads_for : Option Order → ℕ
threads_for None = 0
threads_for (Some (Keep place)) = 0
threads_for (Some (Open name)) = 1
threads_for (Some (Close place)) = 1

-- a thread closes a room, once it has this order
abbrev pub is_close : Option Order → Bool
is_close None = false
is_close (Some (Keep place)) = false
is_close (Some (Open name)) = false
is_close (Some (Close place)) = true

-- a thread has opened or closed a room, and by whether one closes a room now
abbrev pub once_moved : QueueView → Bool → QueueView
once_moved queue closing = record {
  waiting = queue.waiting;
  space = queue.space;
  moving = queue.moving - 1;
  most_moving = queue.most_moving;
  is_closing = closing;
  is_over = queue.is_over;
}

-- no room is opened or closed any more
abbrev pub after_end : QueueView → QueueView
after_end queue = record {
  waiting = record { keeps = queue.waiting.keeps; opens = []; closes = [] };
  space = queue.space;
  moving = queue.moving;
  most_moving = queue.most_moving;
  is_closing = queue.is_closing;
  is_over = true;
}
