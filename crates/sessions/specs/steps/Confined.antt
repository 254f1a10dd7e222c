-- Which rooms a session may enter.
use Rattle.std.specs.Prelude.{Bool, true, false}
use Rattle.base_types.specs.Texts.{Bytes}
use Rattle.scope.specs.Scopes.{scope_of_target}
use Rattle.scope.specs.declared.scope.Scope.{Scope}
use Rattle.scope.specs.declared.scope.Scope.TheVariants.{Anywhere}

-- The scope of a session whose request has this target. Only where sessions are confined to the
-- room of their path does the target count.
abbrev pub scope_for : Bool → Bytes → Scope
scope_for true target = scope_of_target target
scope_for false target = Anywhere
