-- Operators between operands, as a chain has them.
use Rattle.std.proofs.Common.{◌≡◌, ap, subst, sym, ◌∙◌}
use Rattle.std.specs.Prelude.{Result}
use Rattle.fx_ast.proofs.ShapeLaws.{link_is}
use Rattle.fx_ast.specs.Shape.{link, tree_of}
use Rattle.fx_ast.specs.Tree.{Links, more_links}
use Rattle.fx_ast.specs.declared.expr.Link.{Link}
use Rattle.fx_meaning.specs.Meaning.{Tests, means_links}
use Rattle.fx_meaning.specs.Value.{Val}
use Rattle.fx_value.proofs.Ends.{later-zero}
use Rattle.fx_value.specs.Ends.{End, Gives, and_then}
use Rattle.fx_values.specs.declared.stop.Stop.{Stop}
use Rattle.fx_rowfn.specs.Frame as plain
use Rattle.fx_rowfn.specs.Frame.{Scope, calls_above, unwound}
use Rattle.fx_rowfn.specs.State.{Leads, resumed_left}
use Rattle.fx_rowfn.specs.declared.frame.Next.{Next}
use Rattle.fx_rowfn.proofs.StepLaws.{leads_along}

pub link_told : (ls rest : Links) (l : Link) → ls ≡ more_links (link l).place (link l).op (link l).right rest → ls ≡ more_links l.place l.op (tree_of l.right) rest
link_told ls rest l is = is ∙ ap (λ o. more_links o.place o.op o.right rest) (link_is l)

pub links_lead : (scope : Scope) (v : Val) (ls ms : Links) (r : Result Next Stop) → ls ≡ ms → ((test : Tests) → Leads (resumed_left test (plain.left_of scope ms) v) test r)
    → (test : Tests) → Leads (resumed_left test (plain.left_of scope ls) v) test r
links_lead scope v ls ms r is leads = λ test. subst (λ l. Leads (resumed_left test (plain.left_of scope l) v) test r) (sym is) (leads test)

-- the operators behind a value that was told
pub linked_lead : (test : Tests) (scope : Scope) (ls : Links) (end : End Val) (v : Val) (r : Result Next Stop) → end ≡ Gives v 0 → Leads (resumed_left test (plain.left_of scope ls) v) test r
    → Leads (λ limit fs. and_then (and_then end (means_links test (calls_above test limit fs) scope.setting ls scope.env)) (unwound test limit fs)) test r
linked_lead test scope ls end v r is leads =
    leads_along (λ limit fs. and_then (and_then end (means_links test (calls_above test limit fs) scope.setting ls scope.env)) (unwound test limit fs))
    (resumed_left test (plain.left_of scope ls) v) test r
    (λ limit fs.
    ap (λ e. and_then (and_then e (means_links test (calls_above test limit fs) scope.setting ls scope.env)) (unwound test limit fs)) is
    ∙ ap (λ e. and_then e (unwound test limit fs)) (later-zero (means_links test (calls_above test limit fs) scope.setting ls scope.env v)))
    leads
