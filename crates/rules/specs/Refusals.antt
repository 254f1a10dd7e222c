-- The numbers and words of refusals, and who refuses what.
use Rattle.std.specs.Prelude.{ℕ, Bool, true, false, List, codes}
use Rattle.rules.specs.declared.refusal.Refusal.{Refusal}
use Rattle.rules.specs.declared.refusal.Refusal.TheVariants.{BadMessage, NotJoined, AlreadyJoined}
use Rattle.rules.specs.declared.refusal.Refusal.TheVariants.{NoSuchRoom, RoomFull, RecordFull}
use Rattle.rules.specs.declared.refusal.Refusal.TheVariants.{WrongSeq, OwnCount, Ahead, NotClosed}
use Rattle.rules.specs.declared.refusal.Refusal.TheVariants.{NoSuchObject, NoSuchVersion}
use Rattle.rules.specs.declared.refusal.Refusal.TheVariants.{ObjectFull, TooManyKeys}
use Rattle.rules.specs.declared.refusal.Refusal.TheVariants.{TooManyVersions, TooManyObjects}
use Rattle.rules.specs.declared.refusal.Refusal.TheVariants.{TooFar, Gone, NoSuchSite, SiteInUse}
use Rattle.rules.specs.declared.refusal.Refusal.TheVariants.{NotServed, Renewed}

-- a refusal's number and its word
abbrev pub code_and_word : Refusal → ℕ × List ℕ
code_and_word BadMessage = (1, codes "bad-message")
code_and_word NotJoined = (2, codes "not-joined")
code_and_word AlreadyJoined = (3, codes "already-joined")
code_and_word NoSuchRoom = (4, codes "no-such-room")
code_and_word RoomFull = (5, codes "room-full")
code_and_word RecordFull = (6, codes "record-full")
code_and_word WrongSeq = (7, codes "wrong-seq")
code_and_word OwnCount = (8, codes "own-count")
code_and_word Ahead = (9, codes "ahead")
code_and_word NotClosed = (10, codes "not-closed")
code_and_word NoSuchObject = (11, codes "no-such-object")
code_and_word NoSuchVersion = (12, codes "no-such-version")
code_and_word ObjectFull = (13, codes "object-full")
code_and_word TooManyKeys = (14, codes "too-many-keys")
code_and_word TooManyVersions = (15, codes "too-many-versions")
code_and_word TooManyObjects = (16, codes "too-many-objects")
code_and_word TooFar = (17, codes "too-far")
code_and_word Gone = (18, codes "gone")
code_and_word NoSuchSite = (19, codes "no-such-site")
code_and_word SiteInUse = (20, codes "site-in-use")
code_and_word NotServed = (21, codes "not-served")
code_and_word Renewed = (22, codes "renewed")

abbrev pub code_of : Refusal → ℕ
code_of refusal = (code_and_word refusal).0

abbrev pub word_of : Refusal → List ℕ
word_of refusal = (code_and_word refusal).1

-- a session refuses so by itself, without asking a room
abbrev pub is_by_session : Refusal → Bool
is_by_session BadMessage = true
is_by_session NotJoined = true
is_by_session AlreadyJoined = true
is_by_session NoSuchRoom = true
is_by_session NotServed = true
is_by_session _ = false

-- only a back is refused so
abbrev pub is_of_back : Refusal → Bool
is_of_back NoSuchSite = true
is_of_back SiteInUse = true
is_of_back _ = false
