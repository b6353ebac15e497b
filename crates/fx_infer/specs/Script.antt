-- Scripts that have a typing, and the first statement without one.
use Rattle.std.specs.Prelude.{◌≡◌, ℕ, ◌-◌, ◌≤◌, true, false, List, [], ◌∷◌, Option, None, Some, take, length}
use Rattle.fx_types.specs.Term.{Label}
use Rattle.fx_types.specs.Ground.{listed}
use Rattle.fx_ast.specs.Tree.{StatementForm, import, assign, task, show, StatementTree}
use Rattle.fx_infer.specs.Environment.{Env, assigned, imported, IsTyped, names_of}
use Rattle.fx_infer.specs.Native.{packages}

-- the name of an import: its alias, or else its path
abbrev pub import_name : Option Label → Label → Label
import_name None path = path
import_name (Some x) path = x

-- the environment of the statements after it
abbrev pub after : StatementForm → Env → Env
after (import alias path) env = imported (import_name alias path) path ∷ env
after (assign x e) env = assigned x e ∷ env
after (task e) env = env
after (show e) env = env

-- and after all of them
abbrev pub after_all : List StatementTree → Env → Env
after_all [] env = env
after_all (s ∷ ss) env = after_all ss (after s.form env)

-- the statement keeps the rules in the environment of those before it, which at the script's top holds what they declare
abbrev pub KeepsRules : StatementForm → Env → Type 0
KeepsRules (import alias path) env = (listed path packages ≡ true) × (listed (import_name alias path) (names_of env) ≡ false)
KeepsRules (assign x e) env = (listed x (names_of env) ≡ false) × IsTyped env e
KeepsRules (task e) env = IsTyped env e
KeepsRules (show e) env = IsTyped env e

-- each does, one after another
abbrev pub AreTyped : List StatementTree → Env → Type 0
AreTyped [] env = Unit {0}
AreTyped (s ∷ ss) env = KeepsRules s.form env × AreTyped ss (after s.form env)

-- the statements have a typing
abbrev pub HasTyping : List StatementTree → Type 0
HasTyping ss = AreTyped ss []

-- the statement with this number, counted from 1, is the first without a typing
abbrev pub IsFirstUntyped : ℕ → List StatementTree → Type 0
IsFirstUntyped n ss = (1 ≤ n) × (n ≤ length ss) × HasTyping (take (n - 1) ss) × (HasTyping (take n ss) → ⊥)
