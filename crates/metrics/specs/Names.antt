-- Names of metrics and labels, which the text form shows as they are.
use Rattle.std.specs.Prelude.{Bool, not, ◌&&◌, ◌==◌}
use Rattle.std.specs.List.{list_all}
use Rattle.base_types.specs.Texts.{Bytes}
use Rattle.metrics.specs.Families.{FamilyView}

abbrev pub has_no_line_end : Bytes → Bool
has_no_line_end name = list_all (λ byte. not (byte == 10)) name

-- no name of the family or of its labels holds a line end
abbrev pub has_names_in_line : FamilyView → Bool
has_names_in_line family =
    has_no_line_end family.name
    && list_all (λ sample. list_all (λ label. has_no_line_end label.name) sample.labels) family.samples
