-- Statements as code goes through them: whether an expression has a type, and the names after a statement.
use Rattle.std.specs.Prelude.{◌≡◌, ◌↔◌, ℕ, Bool, true, false, List, Option, None, Some}
use Rattle.fx_types.specs.Ground.{Ground}
use Rattle.fx_types.specs.Instance.{Solution}
use Rattle.fx_types.specs.Shape.{term}
use Rattle.fx_unify.specs.Solutions.{HasLeast}
use Rattle.fx_generalize.specs.Solved as solved
use Rattle.fx_ast.specs.Tree.{Tree, StatementForm, StatementTree}
use Rattle.fx_infer.specs.declared.ask.Inferred as found
use Rattle.fx_infer.specs.declared.scope.Name as names
use Rattle.fx_infer.specs.declared.stop.Stop as stops
use Rattle.fx_infer.specs.declared.stop.Stop.TheVariants as stop
use Rattle.fx_infer.specs.declared.typed.InferFault as faults
use Rattle.fx_infer.specs.declared.typed.InferFault.TheVariants as fault
use Rattle.fx_infer.specs.Environment.{Env, HasType, IsTyped}
use Rattle.fx_infer.specs.Names.{env_under}
use Rattle.fx_infer.specs.Script.{after, KeepsRules, HasTyping, IsFirstUntyped}

-- the environment of the names, whatever variables stand for
abbrev pub IsEnv : Env → List names.Name → Type 0
IsEnv env ns = (s : Solution) → env_under s ns ≡ env

-- settled bindings and a term that stands for exactly the types of the expression, None where it has none
abbrev pub Settles : Env → Tree → Option found.Inferred → Type 0
Settles env e None = IsTyped env e → ⊥
Settles env e (Some r) = HasLeast r.bindings × ((t : Ground) → solved.HasType r.bindings (term r.ty) t ↔ HasType env e t)

-- whether it has one
abbrev pub TellsTyped : Env → Tree → Bool → Type 0
TellsTyped env e true = IsTyped env e
TellsTyped env e false = IsTyped env e → ⊥

-- the names behind a statement, None where it breaks the rules
abbrev pub Leads : Env → StatementForm → Option (List names.Name) → Type 0
Leads env f None = KeepsRules f env → ⊥
Leads env f (Some ns) = KeepsRules f env × IsEnv (after f env) ns

-- the number of the first statement without a typing, None where all have one
abbrev pub FirstUntyped : List StatementTree → Option ℕ → Type 0
FirstUntyped ss None = HasTyping ss
FirstUntyped ss (Some n) = IsFirstUntyped n ss

-- why the statements weren't typed
abbrev pub IsFault : faults.InferFault → List StatementTree → Type 0
IsFault (fault.IllTyped n) ss = IsFirstUntyped n ss
IsFault _ ss = Unit {0}

abbrev pub fault_of : stops.Stop → faults.InferFault
fault_of stop.Memory = fault.Memory
fault_of stop.NotYet = fault.NotYet
