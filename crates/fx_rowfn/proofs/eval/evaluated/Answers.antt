use Rattle.std.proofs.Common.{sym, ap, subst, ◌∙◌, map}
use Rattle.fx_ast.proofs.ShapeLaws.{shape_array, shape_call, shape_chain, shape_fun, shape_if, shape_index, shape_int, shape_member, shape_name, shape_paren, shape_pattern, shape_pipe, shape_prefix, shape_rec, shape_span, shape_text, shape_time}
use Rattle.fx_ast.specs.Shape.{body, link, links_of, param, params_of, part, parts_of, prop, props_of, shape_of, tree_of, trees_of}
use Rattle.fx_ast.specs.Tree.{array, call, chain, fun, if_then, index, int, member, name, paren, pattern, pipe, prefix, rec, span, text, time}
use Rattle.fx_value.specs.Ends.{and_then}
use Rattle.fx_meaning.specs.Ends.{pure}
use Rattle.fx_meaning.specs.Value as value
use Rattle.fx_rowfn.specs.Frame.{unwound}
use Rattle.fx_rowfn.specs.State.{Leads, links_from, parts_from, props_from, scope_of, trees_from}
use Rattle.fx_rowfn.proofs.NodeLaws.{all_args, all_calls, all_items, all_parts, all_props, by_node, first_links}
use Rattle.fx_rowfn.proofs.eval.evaluated.Goals as goal

pub returns-in-Int : goal.returns-in-Int
returns-in-Int c =
    by_node c.args.expr.now (scope_of c.args.scope) (int c.in-Int.n) c.constant.result (ap shape_of (sym c.get.ensures ∙ c.in-Int.is) ∙ shape_int c.in-Int.n)
    (λ test. subst (λ a. Leads (λ limit fs. and_then (pure (value.cell a)) (unwound test limit fs)) test c.constant.result) c.integer.ensures (c.constant.ensures test))

pub returns-in-Time : goal.returns-in-Time
returns-in-Time c =
    by_node c.args.expr.now (scope_of c.args.scope) (time c.in-Time.t) c.constant-in-Time.result (ap shape_of (sym c.get.ensures ∙ c.in-Time.is) ∙ shape_time c.in-Time.t)
    (λ test. subst (λ a. Leads (λ limit fs. and_then (pure (value.cell a)) (unwound test limit fs)) test c.constant-in-Time.result) c.moment.ensures (c.constant-in-Time.ensures test))

pub returns-in-Paren : goal.returns-in-Paren
returns-in-Paren c =
    by_node c.args.expr.now (scope_of c.args.scope) (paren (tree_of c.in-Paren.of)) c.inner.result (ap shape_of (sym c.get.ensures ∙ c.in-Paren.is) ∙ shape_paren c.in-Paren.of) c.inner.ensures

pub returns-in-Member : goal.returns-in-Member
returns-in-Member c =
    by_node c.args.expr.now (scope_of c.args.scope) (member (tree_of c.in-Member.of) c.in-Member.label) c.member.result (ap shape_of (sym c.get.ensures ∙ c.in-Member.is) ∙ shape_member c.in-Member.of c.in-Member.label) c.member.ensures

pub returns-in-Index : goal.returns-in-Index
returns-in-Index c =
    by_node c.args.expr.now (scope_of c.args.scope) (index (tree_of c.in-Index.of) (tree_of c.in-Index.at)) c.indexed.result (ap shape_of (sym c.get.ensures ∙ c.in-Index.is) ∙ shape_index c.in-Index.of c.in-Index.at) c.indexed.ensures

pub returns-in-Prefix : goal.returns-in-Prefix
returns-in-Prefix c =
    by_node c.args.expr.now (scope_of c.args.scope) (prefix c.in-Prefix.sign (tree_of c.in-Prefix.of)) c.signed.result (ap shape_of (sym c.get.ensures ∙ c.in-Prefix.is) ∙ shape_prefix c.in-Prefix.sign c.in-Prefix.of) c.signed.ensures

pub returns-in-If : goal.returns-in-If
returns-in-If c =
    by_node c.args.expr.now (scope_of c.args.scope) (if_then (tree_of c.in-If.test) (tree_of c.in-If.yes) (tree_of c.in-If.no)) c.decision.result (ap shape_of (sym c.get.ensures ∙ c.in-If.is) ∙ shape_if c.in-If.test c.in-If.yes c.in-If.no) c.decision.ensures

pub returns-in-Chain : goal.returns-in-Chain
returns-in-Chain c =
    by_node c.args.expr.now (scope_of c.args.scope) (chain (tree_of c.in-Chain.first) (links_from (tree_of c.args.expr.now) 0)) c.chained.result
    (first_links c.args.expr.now (tree_of c.in-Chain.first) (links_of (map link c.in-Chain.rest))
    (ap shape_of (sym c.get.ensures ∙ c.in-Chain.is) ∙ shape_chain c.in-Chain.first c.in-Chain.rest)) c.chained.ensures

pub returns-in-Span : goal.returns-in-Span
returns-in-Span c =
    by_node c.args.expr.now (scope_of c.args.scope) (span c.in-Span.d) c.duration.result (ap shape_of (sym c.get.ensures ∙ c.in-Span.is) ∙ shape_span c.in-Span.d) c.duration.ensures

pub returns-in-Text : goal.returns-in-Text
returns-in-Text c =
    by_node c.args.expr.now (scope_of c.args.scope) (text (parts_from (tree_of c.args.expr.now) 0)) c.texted.result
    (all_parts c.args.expr.now (parts_of (map part c.in-Text.field-0)) (ap shape_of (sym c.get.ensures ∙ c.in-Text.is) ∙ shape_text c.in-Text.field-0)) c.texted.ensures

pub returns-in-Array : goal.returns-in-Array
returns-in-Array c =
    by_node c.args.expr.now (scope_of c.args.scope) (array (trees_from (tree_of c.args.expr.now) 0)) c.arrayed.result
    (all_items c.args.expr.now (trees_of (map tree_of c.in-Array.field-0)) (ap shape_of (sym c.get.ensures ∙ c.in-Array.is) ∙ shape_array c.in-Array.field-0)) c.arrayed.ensures

pub returns-in-Pattern : goal.returns-in-Pattern
returns-in-Pattern c =
    by_node c.args.expr.now (scope_of c.args.scope) (pattern c.in-Pattern.text) c.patterned.result (ap shape_of (sym c.get.ensures ∙ c.in-Pattern.is) ∙ shape_pattern c.in-Pattern.text) c.patterned.ensures

pub returns-in-Name : goal.returns-in-Name
returns-in-Name c =
    by_node c.args.expr.now (scope_of c.args.scope) (name c.in-Name.label) c.named.result (ap shape_of (sym c.get.ensures ∙ c.in-Name.is) ∙ shape_name c.in-Name.label) c.named.ensures

pub returns-in-Rec : goal.returns-in-Rec
returns-in-Rec c =
    by_node c.args.expr.now (scope_of c.args.scope) (rec c.in-Rec.base (props_from (tree_of c.args.expr.now) 0)) c.recorded.result
    (all_props c.args.expr.now c.in-Rec.base (props_of (map prop c.in-Rec.props)) (ap shape_of (sym c.get.ensures ∙ c.in-Rec.is) ∙ shape_rec c.in-Rec.base c.in-Rec.props)) c.recorded.ensures

pub returns-in-Fun : goal.returns-in-Fun
returns-in-Fun c =
    by_node c.args.expr.now (scope_of c.args.scope) (fun (params_of (map param c.in-Fun.params)) (body c.in-Fun.body).lets (body c.in-Fun.body).result) c.function.result
    (ap shape_of (sym c.get.ensures ∙ c.in-Fun.is) ∙ shape_fun c.in-Fun.params c.in-Fun.body) c.function.ensures

pub returns-in-Call : goal.returns-in-Call
returns-in-Call c =
    by_node c.args.expr.now (scope_of c.args.scope) (call (tree_of c.in-Call.callee) (props_from (tree_of c.args.expr.now) 0)) c.called.result
    (all_args c.args.expr.now (tree_of c.in-Call.callee) (props_of (map prop c.in-Call.args)) (ap shape_of (sym c.get.ensures ∙ c.in-Call.is) ∙ shape_call c.in-Call.callee c.in-Call.args)) c.called.ensures

pub returns-in-Pipe : goal.returns-in-Pipe
returns-in-Pipe c =
    by_node c.args.expr.now (scope_of c.args.scope) (pipe (tree_of c.in-Pipe.first) (trees_from (tree_of c.args.expr.now) 0)) c.piped.result
    (all_calls c.args.expr.now (tree_of c.in-Pipe.first) (trees_of (map tree_of c.in-Pipe.calls)) (ap shape_of (sym c.get.ensures ∙ c.in-Pipe.is) ∙ shape_pipe c.in-Pipe.first c.in-Pipe.calls)) c.piped.ensures
