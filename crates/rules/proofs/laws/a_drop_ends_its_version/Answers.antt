use Rattle.rules.proofs.Drops.{put_in_base}
use Rattle.rules.proofs.laws.a_drop_ends_its_version.Goals as goal

pub returns : goal.returns
returns c = λ h object g a d i founded group ma p md q. put_in_base i founded object g a d group ma p md q
