-- A list of at least one label and its value.
use Rattle.std.proofs.Common.{◌≡◌, ℕ, false, true, List, [], ◌∷◌, map, refl, sym, ap, ◌∙◌}
use Rattle.std.specs.Prelude.{Bool}
use Rattle.fx_ast.specs.declared.expr.Expr.{Expr}
use Rattle.fx_ast.specs.declared.expr.Prop.{Prop, roll-Prop}
use Rattle.fx_ast.specs.Shape.{tree_of, prop, props_of}
use Rattle.fx_ast.specs.Tree.{Tree, Props, no_props, more_props}
use Rattle.fx_ast.proofs.ListLaws.{props_more, props_all}
use Rattle.fx_ast.specs.Lists.{props_before}
use Rattle.fx_parse.specs.Closing.{read_prop}
use Rattle.fx_parse.specs.Grammar.{Group}
use Rattle.fx_parse.specs.Items.{Items}
use Rattle.fx_parse.specs.Readings.{Out, Got, Bad, mapped}
use Rattle.fx_parse.specs.ReadProps.{read_some_props}
use Rattle.fx_parse.proofs.turns.ListTurns.{some_by, mapped_by}

module _ (g : Group) (k : ℕ) (inner : Items → Out Tree) (again : Items → Out Props) (w : Items) where
  pub some_last : (ps : List Prop) (x : List ℕ) (e : Expr) (b : Bool) (r : Items) → read_prop g k inner w ≡ Got (x, tree_of e, b) r → b ≡ true
      → ps ≡ roll-Prop (record { label = x; value = e }) ∷ [] → read_some_props g k inner again w ≡ Got (props_of (map prop ps)) r
  some_last ps x e b r is ends new = some_by g k inner again w ∙ rw (is, ends, new) (ap (λ l. Got l r) (sym (props_more [] x e no_props) ∙ props_all (roll-Prop (record { label = x; value = e }) ∷ [])))

  pub some_more : (ps : List Prop) (x : List ℕ) (e : Expr) (b : Bool) (r : Items) → read_prop g k inner w ≡ Got (x, tree_of e, b) r → b ≡ false
      → ps ≡ roll-Prop (record { label = x; value = e }) ∷ [] → read_some_props g k inner again w ≡ mapped (props_before ps) (again r)
  some_more ps x e b r is ends new = some_by g k inner again w ∙ rw (is, ends, new)
      (mapped_by (λ l. more_props x (tree_of e) l) (props_before (roll-Prop (record { label = x; value = e }) ∷ [])) (again r) (λ l. sym (props_more [] x e l)))

  pub some_bad : (d : Bool) (r : Items) → read_prop g k inner w ≡ Bad d r → read_some_props g k inner again w ≡ Bad d r
  some_bad d r is = some_by g k inner again w ∙ rw is refl

pub ruleset some = (some_last, some_more, some_bad)
