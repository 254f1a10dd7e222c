-- Which answers of a room to whoever asks show an object.
use Rattle.std.proofs.Common.{◌≡◌, ℕ, Bool, List, Option, Some, None}
use Rattle.base_types.specs.Names.{Name}
use Rattle.base_types.specs.Texts.{Bytes}
use Rattle.rules.specs.declared.version.Version.{Version}
use Rattle.wire.specs.declared.request.Request.{Request}
use Rattle.wire.specs.declared.request.Request.TheVariants as request
use Rattle.wire.specs.declared.reply.Reply.TheVariants.{Versions}
use Rattle.room_core.specs.Room.{Room}
use Rattle.room_core.proofs.Shows.{IsShownBy, join_shows, back_shows, answer_shows}
use Rattle.world.specs.steps.Steps.{asker_answer, outside_answer}

module _ (room : Room) (at : ℕ) (object : Name) (kind : Bytes) (vs : List Version) (in_use : ℕ → Bool) where
  -- a session that is in no room is shown nothing
  outside_shows : (asks : Request) → (outside_answer room in_use asks).0 ≡ Versions at object kind vs → ⊥
  outside_shows (request.Join name) e = join_shows room at object kind vs e
  outside_shows (request.Back name site) e = back_shows room at object kind vs (in_use site) site e
  outside_shows (request.Change seq seen body) e = cc
  outside_shows (request.Show name) e = cc
  outside_shows (request.List from) e = cc
  outside_shows (request.Pull from waits) e = cc
  outside_shows request.Leave e = cc

  -- a room that answers with versions shows its own, and adds nothing
  pub room_shows : (who : Option ℕ) (asks : Request) → (asker_answer room in_use who asks).0 ≡ Versions at object kind vs → IsShownBy room at object kind vs (asker_answer room in_use who asks).1
  room_shows None asks e = absurd (outside_shows asks e)
  room_shows (Some site) asks e = answer_shows room at object kind vs site asks e
