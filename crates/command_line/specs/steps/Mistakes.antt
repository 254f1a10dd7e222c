-- What a command line without a command asks for.
use Rattle.std.specs.Prelude.{◌≡◌, ◌⊎◌}
use Rattle.clap.specs.declared.error.Error.{Error}
use Rattle.clap.specs.declared.error.kind.ErrorKind.TheVariants.{DisplayHelp, DisplayVersion}
use Rattle.clap.specs.Values.{kind_of}

-- the words ask for help or for the version
abbrev pub AsksForText : Error → Type 0
AsksForText error = (kind_of error ≡ DisplayHelp) ⊎ (kind_of error ≡ DisplayVersion)
