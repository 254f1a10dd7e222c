-- A closed room: its record, and the parts of its sites.
use Rattle.std.specs.Prelude.{◌≡◌, All, List, map, sum_by}
use Rattle.std.specs.List.{range_with_len}
use mathlib.Core.List.{IsPrefix}
use Rattle.rules.specs.declared.history.Entry.{Entry}
use Rattle.rules.specs.declared.limits.LimitValues.{LimitValues}
use Rattle.rules.specs.Records.{sites, IsLegal}
use Rattle.room_lock.specs.Sites.{count_of_sites, count_of_site}
use Rattle.room_lock.specs.Passes.{PartView}

pub record IsOfRecord (r : List Entry) (part : PartView) : Type 0 where
  pub seen : IsPrefix part.seen r
  pub added : part.added ≡ count_of_site part.site r

-- these are the parts of all sites, in order; each entry but the end belongs to one of them
pub record IsClosed (limits : LimitValues) (r : List Entry) (parts : List PartView) : Type 0 where
  pub legal : IsLegal limits r
  pub sites_are : map (λ part. part.site) parts ≡ range_with_len 1 (sites r)
  pub of_record : All (IsOfRecord r) parts
  pub whole : sum_by (λ part. part.added) parts ≡ count_of_sites r
