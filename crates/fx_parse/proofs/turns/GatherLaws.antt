-- One turn of the loops over parameters and over a block's assignments.
use Rattle.std.proofs.Common.{◌≡◌, ℕ, suc, Bool, true, false, List, [], ◌∷◌, ◌++◌, map, Err, refl, ap, ◌∙◌}
use Rattle.fx_ast.specs.declared.expr.Expr.{Expr}
use Rattle.fx_ast.specs.declared.expr.Param.{Param, roll-Param}
use Rattle.fx_ast.specs.declared.expr.ParamKind.{ParamKind}
use Rattle.fx_ast.specs.declared.expr.Prop.{Prop, roll-Prop}
use Rattle.fx_ast.proofs.ListLaws.{params_push, props_push}
use Rattle.fx_ast.specs.Shape.{OfParam, OfProp, tree_of, default_of, param, prop}
use Rattle.fx_ast.specs.Tree.{Tree, Default}
use Rattle.fx_scan.specs.declared.symbols.Symbol.TheVariants as symbol
use Rattle.fx_scan.specs.declared.words.Word.TheVariants as word
use Rattle.fx_parse.specs.declared.item.Item.{Item}
use Rattle.fx_parse.specs.declared.stop.Stop.{Stop}
use Rattle.fx_parse.specs.declared.stop.Stop.TheVariants as stop
use Rattle.fx_parse.specs.Cursor.{Gives}
use Rattle.fx_parse.specs.Gathering.{with_param, with_prop, params_from, block_from, read_param, read_binding, read_return}
use Rattle.fx_parse.specs.Items.{Items, passes, first, is_symbol, is_word}
use Rattle.fx_parse.specs.Readings.{Out, Got, Bad, token}

-- a refusal of a part is one of the whole
pub fails_as : {A B C D : Type 0} (f : A → B) (h : C → D) (part : Out B) (whole whole' : Out D) (e : Stop) (new : Items) → whole' ≡ whole → ((deep : Bool) (r : Items) → part ≡ Bad deep r → whole ≡ Bad deep r)
    → Gives f part (Err e) new → Gives h whole' (Err e) new
fails_as f h part whole whole' stop.Memory new same step g = tt
fails_as f h part whole whole' (stop.Refused deep) new same step g = same ∙ step deep new g

module _ (inner : Items → Out Tree) (n : ℕ) where
  pub params_end : (found : List OfParam) (w r : Items) (y : Item) → passes (is_symbol symbol.CloseParen) (first w) ≡ true → token (is_symbol symbol.CloseParen) w ≡ Got y r → params_from inner (suc n) found w ≡ Got found r
  unfolding params_from
  params_end found w r y e t = rw (e, t) refl

  pub params_next : (found : List OfParam) (w r : Items) (p : List ℕ × Default × Bool) → passes (is_symbol symbol.CloseParen) (first w) ≡ false → read_param inner w ≡ Got p r → p.2 ≡ false
      → params_from inner (suc n) found w ≡ params_from inner n (with_param found p) r
  unfolding params_from
  params_next found w r p e one more = rw (e, one, more) refl

  pub params_last : (found : List OfParam) (w r : Items) (p : List ℕ × Default × Bool) → passes (is_symbol symbol.CloseParen) (first w) ≡ false → read_param inner w ≡ Got p r → p.2 ≡ true
      → params_from inner (suc n) found w ≡ Got (with_param found p) r
  unfolding params_from
  params_last found w r p e one more = rw (e, one, more) refl

  pub params_bad : (found : List OfParam) (w r : Items) (deep : Bool) → passes (is_symbol symbol.CloseParen) (first w) ≡ false → read_param inner w ≡ Bad deep r → params_from inner (suc n) found w ≡ Bad deep r
  unfolding params_from
  params_bad found w r deep e one = rw (e, one) refl

  pub block_end : (found : List OfProp) (w r : Items) (e : Tree) → passes (is_word word.Return) (first w) ≡ true → read_return inner w ≡ Got e r → block_from inner (suc n) found w ≡ Got (found, e) r
  unfolding block_from
  block_end found w r e sees one = rw (sees, one) refl

  pub block_end_bad : (found : List OfProp) (w r : Items) (deep : Bool) → passes (is_word word.Return) (first w) ≡ true → read_return inner w ≡ Bad deep r → block_from inner (suc n) found w ≡ Bad deep r
  unfolding block_from
  block_end_bad found w r deep sees one = rw (sees, one) refl

  pub block_next : (found : List OfProp) (w r : Items) (p : List ℕ × Tree) → passes (is_word word.Return) (first w) ≡ false → read_binding inner w ≡ Got p r
      → block_from inner (suc n) found w ≡ block_from inner n (with_prop found p) r
  unfolding block_from
  block_next found w r p sees one = rw (sees, one) refl

  pub block_bad : (found : List OfProp) (w r : Items) (deep : Bool) → passes (is_word word.Return) (first w) ≡ false → read_binding inner w ≡ Bad deep r → block_from inner (suc n) found w ≡ Bad deep r
  unfolding block_from
  block_bad found w r deep sees one = rw (sees, one) refl

pub params_none : (inner : Items → Out Tree) (found : List OfParam) (w : Items) → params_from inner 0 found w ≡ Bad false w
unfolding params_from
params_none inner found w = refl

pub block_none : (inner : Items → Out Tree) (found : List OfProp) (w : Items) → block_from inner 0 found w ≡ Bad false w
unfolding block_from
block_none inner found w = refl

-- ---- lists of parts that grow at their end

pub pushed_param : (ps new : List Param) (x : List ℕ) (d : ParamKind) → new ≡ ps ++ roll-Param (record { label = x; default = d }) ∷ [] → map param new ≡ map param ps ++ record { label = x; default = default_of d } ∷ []
pushed_param ps new x d e = ap (map param) e ∙ params_push ps x d

pub pushed_prop : (ps new : List Prop) (x : List ℕ) (e : Expr) → new ≡ ps ++ roll-Prop (record { label = x; value = e }) ∷ [] → map prop new ≡ map prop ps ++ record { label = x; value = tree_of e } ∷ []
pushed_prop ps new x a e = ap (map prop) e ∙ props_push ps x a
