use Rattle.fx_ast.specs.Bare.{bare, bare_part, bare_prop, bare_param, bare_link}
use Rattle.fx_ast.specs.Shape.{tree_of, part, link, param, prop}
use Rattle.fx_ast.proofs.BareLaws.{not_int, not_time, not_span, not_text, not_pattern, not_name, not_paren, not_array, not_rec, not_fun, not_call, not_pipe, not_member, not_index, not_chain, not_prefix, not_if, both_int, both_time, both_span, both_text, both_pattern, both_name, both_paren, both_array, both_rec, both_fun, both_call, both_pipe, both_member, both_index, both_chain, both_prefix, both_if}
use Rattle.fx_ast.proofs.SameLaws.{one, first, second, whole, apart, shorter, differs, ends, exprs_by_item, props_by_item, params_by_item, links_by_item, parts_by_item, expr_is, both_prop, both_param, both_link, both_body, not_required, not_piped, not_value, both_value, not_piece, not_hole, both_piece, both_hole}
use Rattle.fx_ast.proofs.same.+same.Goals as goal

pub same_expr-returns : goal.same_expr-returns
same_expr-returns t c = one (expr_is c.args.left.now c.args.right.now) (rw (c.get.ensures, c.get-2.ensures) at c.same_node.ensures)

pub same_body-returns-then-same_props : goal.same_body-returns-then-same_props
same_body-returns-then-same_props t c = second (both_body c.args.left.now c.args.right.now) (c.same_props.ensures.0 c.if-same_props.true) c.same_expr.ensures

pub same_body-returns-else-same_props : goal.same_body-returns-else-same_props
same_body-returns-else-same_props t c = first (both_body c.args.left.now c.args.right.now) c.same_props.ensures c.if-same_props.false

pub same_prop-returns-then-same_text : goal.same_prop-returns-then-same_text
same_prop-returns-then-same_text t c = second (both_prop c.args.left.now c.args.right.now) (c.same_text.ensures.0 c.if-same_text.true) c.same_expr.ensures

pub same_prop-returns-else-same_text : goal.same_prop-returns-else-same_text
same_prop-returns-else-same_text t c = first (both_prop c.args.left.now c.args.right.now) c.same_text.ensures c.if-same_text.false

pub same_param-returns-then-same_text : goal.same_param-returns-then-same_text
same_param-returns-then-same_text t c = second (both_param c.args.left.now c.args.right.now) (c.same_text.ensures.0 c.if-same_text.true) c.same_kind.ensures

pub same_param-returns-else-same_text : goal.same_param-returns-else-same_text
same_param-returns-else-same_text t c = first (both_param c.args.left.now c.args.right.now) c.same_text.ensures c.if-same_text.false

pub same_link-returns-then-same_op : goal.same_link-returns-then-same_op
same_link-returns-then-same_op t c = second (both_link c.args.left.now c.args.right.now) (c.same_op.ensures.0 c.if-same_op.true) c.same_expr.ensures

pub same_link-returns-else-same_op : goal.same_link-returns-else-same_op
same_link-returns-else-same_op t c = first (both_link c.args.left.now c.args.right.now) c.same_op.ensures c.if-same_op.false

pub same_kind-returns-in_default : goal.same_kind-returns-in_default
same_kind-returns-in_default t c = apart (not_required c.args.left.now c.args.right.now c.in-Required.is c.in_default.not-Required)

pub same_kind-returns-in_default-right : goal.same_kind-returns-in_default-right
same_kind-returns-in_default-right t c = apart (not_piped c.args.left.now c.args.right.now c.in-Pipe.is c.in_default-right.not-Pipe)

pub same_kind-returns-in-Value-right : goal.same_kind-returns-in-Value-right
same_kind-returns-in-Value-right t c = one (both_value c.args.left.now c.args.right.now c.in-Value.x c.in-Value-right.y c.in-Value.is c.in-Value-right.is) c.same_expr.ensures

pub same_kind-returns-in_default-right-2 : goal.same_kind-returns-in_default-right-2
same_kind-returns-in_default-right-2 t c = apart (not_value c.args.left.now c.args.right.now c.in-Value.x c.in-Value.is c.in_default-right-2.not-Value)

pub same_part-returns-in-Piece-right : goal.same_part-returns-in-Piece-right
same_part-returns-in-Piece-right t c = one (both_piece c.args.left.now c.args.right.now c.in-Piece.x c.in-Piece-right.y c.in-Piece.is c.in-Piece-right.is) c.same_text.ensures

pub same_part-returns-in_default : goal.same_part-returns-in_default
same_part-returns-in_default t c = apart (not_piece c.args.left.now c.args.right.now c.in-Piece.x c.in-Piece.is c.in_default.not-Piece)

pub same_part-returns-in-Hole-right : goal.same_part-returns-in-Hole-right
same_part-returns-in-Hole-right t c = one (both_hole c.args.left.now c.args.right.now c.in-Hole.x c.in-Hole-right.y c.in-Hole.is c.in-Hole-right.is) c.same_expr.ensures

pub same_part-returns-in_default-right : goal.same_part-returns-in_default-right
same_part-returns-in_default-right t c = apart (not_hole c.args.left.now c.args.right.now c.in-Hole.x c.in-Hole.is c.in_default-right.not-Hole)

pub same_node-returns-in-Int-right : goal.same_node-returns-in-Int-right
same_node-returns-in-Int-right t c = one (both_int c.args.left.now c.args.right.now c.in-Int.x c.in-Int-right.y c.in-Int.is c.in-Int-right.is) c.same_number.ensures

pub same_node-returns-in_default : goal.same_node-returns-in_default
same_node-returns-in_default t c = apart (not_int c.args.left.now c.args.right.now c.in-Int.x c.in-Int.is c.in_default.not-Int)

pub same_node-returns-in-Time-right : goal.same_node-returns-in-Time-right
same_node-returns-in-Time-right t c = one (both_time c.args.left.now c.args.right.now c.in-Time.x c.in-Time-right.y c.in-Time.is c.in-Time-right.is) c.same_number-in-Time-right.ensures

pub same_node-returns-in_default-right : goal.same_node-returns-in_default-right
same_node-returns-in_default-right t c = apart (not_time c.args.left.now c.args.right.now c.in-Time.x c.in-Time.is c.in_default-right.not-Time)

pub same_node-returns-in-Span-right : goal.same_node-returns-in-Span-right
same_node-returns-in-Span-right t c = one (both_span c.args.left.now c.args.right.now c.in-Span.x c.in-Span-right.y c.in-Span.is c.in-Span-right.is) c.same_span.ensures

pub same_node-returns-in_default-right-2 : goal.same_node-returns-in_default-right-2
same_node-returns-in_default-right-2 t c = apart (not_span c.args.left.now c.args.right.now c.in-Span.x c.in-Span.is c.in_default-right-2.not-Span)

pub same_node-returns-in-Text-right : goal.same_node-returns-in-Text-right
same_node-returns-in-Text-right t c = one (both_text c.args.left.now c.args.right.now c.in-Text.xs c.in-Text-right.ys c.in-Text.is c.in-Text-right.is) c.same_parts.ensures

pub same_node-returns-in_default-right-3 : goal.same_node-returns-in_default-right-3
same_node-returns-in_default-right-3 t c = apart (not_text c.args.left.now c.args.right.now c.in-Text.xs c.in-Text.is c.in_default-right-3.not-Text)

pub same_node-returns-in-Pattern-right : goal.same_node-returns-in-Pattern-right
same_node-returns-in-Pattern-right t c = one (both_pattern c.args.left.now c.args.right.now c.in-Pattern.x c.in-Pattern-right.y c.in-Pattern.is c.in-Pattern-right.is) c.same_text.ensures

pub same_node-returns-in_default-right-4 : goal.same_node-returns-in_default-right-4
same_node-returns-in_default-right-4 t c = apart (not_pattern c.args.left.now c.args.right.now c.in-Pattern.x c.in-Pattern.is c.in_default-right-4.not-Pattern)

pub same_node-returns-in-Name-right : goal.same_node-returns-in-Name-right
same_node-returns-in-Name-right t c = one (both_name c.args.left.now c.args.right.now c.in-Name.x c.in-Name-right.y c.in-Name.is c.in-Name-right.is) c.same_text-in-Name-right.ensures

pub same_node-returns-in_default-right-5 : goal.same_node-returns-in_default-right-5
same_node-returns-in_default-right-5 t c = apart (not_name c.args.left.now c.args.right.now c.in-Name.x c.in-Name.is c.in_default-right-5.not-Name)

pub same_node-returns-in-Paren-right : goal.same_node-returns-in-Paren-right
same_node-returns-in-Paren-right t c = one (both_paren c.args.left.now c.args.right.now c.in-Paren.x c.in-Paren-right.y c.in-Paren.is c.in-Paren-right.is) c.same_expr.ensures

pub same_node-returns-in_default-right-6 : goal.same_node-returns-in_default-right-6
same_node-returns-in_default-right-6 t c = apart (not_paren c.args.left.now c.args.right.now c.in-Paren.x c.in-Paren.is c.in_default-right-6.not-Paren)

pub same_node-returns-in-Array-right : goal.same_node-returns-in-Array-right
same_node-returns-in-Array-right t c = one (both_array c.args.left.now c.args.right.now c.in-Array.xs c.in-Array-right.ys c.in-Array.is c.in-Array-right.is) c.same_exprs.ensures

pub same_node-returns-in_default-right-7 : goal.same_node-returns-in_default-right-7
same_node-returns-in_default-right-7 t c = apart (not_array c.args.left.now c.args.right.now c.in-Array.xs c.in-Array.is c.in_default-right-7.not-Array)

pub same_node-returns-then-same_name : goal.same_node-returns-then-same_name
same_node-returns-then-same_name t c = second (both_rec c.args.left.now c.args.right.now c.in-Rec.base c.in-Rec-right.b c.in-Rec.props c.in-Rec-right.ps c.in-Rec.is c.in-Rec-right.is) (c.same_name.ensures.0 c.if-same_name.true) c.same_props.ensures

pub same_node-returns-else-same_name : goal.same_node-returns-else-same_name
same_node-returns-else-same_name t c = first (both_rec c.args.left.now c.args.right.now c.in-Rec.base c.in-Rec-right.b c.in-Rec.props c.in-Rec-right.ps c.in-Rec.is c.in-Rec-right.is) c.same_name.ensures c.if-same_name.false

pub same_node-returns-in_default-right-8 : goal.same_node-returns-in_default-right-8
same_node-returns-in_default-right-8 t c = apart (not_rec c.args.left.now c.args.right.now c.in-Rec.base c.in-Rec.props c.in-Rec.is c.in_default-right-8.not-Rec)

pub same_node-returns-then-same_params : goal.same_node-returns-then-same_params
same_node-returns-then-same_params t c = second (both_fun c.args.left.now c.args.right.now c.in-Fun.params c.in-Fun-right.ps c.in-Fun.body c.in-Fun-right.b c.in-Fun.is c.in-Fun-right.is) (c.same_params.ensures.0 c.if-same_params.true) c.same_body.ensures

pub same_node-returns-else-same_params : goal.same_node-returns-else-same_params
same_node-returns-else-same_params t c = first (both_fun c.args.left.now c.args.right.now c.in-Fun.params c.in-Fun-right.ps c.in-Fun.body c.in-Fun-right.b c.in-Fun.is c.in-Fun-right.is) c.same_params.ensures c.if-same_params.false

pub same_node-returns-in_default-right-9 : goal.same_node-returns-in_default-right-9
same_node-returns-in_default-right-9 t c = apart (not_fun c.args.left.now c.args.right.now c.in-Fun.params c.in-Fun.body c.in-Fun.is c.in_default-right-9.not-Fun)

pub same_node-returns-then-same_expr : goal.same_node-returns-then-same_expr
same_node-returns-then-same_expr t c = second (both_call c.args.left.now c.args.right.now c.in-Call.callee c.in-Call-right.c c.in-Call.args c.in-Call-right.ps c.in-Call.is c.in-Call-right.is) (c.same_expr-in-Call-right.ensures.0 c.if-same_expr.true) c.same_props-then-same_expr.ensures

pub same_node-returns-else-same_expr : goal.same_node-returns-else-same_expr
same_node-returns-else-same_expr t c = first (both_call c.args.left.now c.args.right.now c.in-Call.callee c.in-Call-right.c c.in-Call.args c.in-Call-right.ps c.in-Call.is c.in-Call-right.is) c.same_expr-in-Call-right.ensures c.if-same_expr.false

pub same_node-returns-in_default-right-10 : goal.same_node-returns-in_default-right-10
same_node-returns-in_default-right-10 t c = apart (not_call c.args.left.now c.args.right.now c.in-Call.callee c.in-Call.args c.in-Call.is c.in_default-right-10.not-Call)

pub same_node-returns-then-same_expr-2 : goal.same_node-returns-then-same_expr-2
same_node-returns-then-same_expr-2 t c = second (both_pipe c.args.left.now c.args.right.now c.in-Pipe.first c.in-Pipe-right.f c.in-Pipe.calls c.in-Pipe-right.cs c.in-Pipe.is c.in-Pipe-right.is) (c.same_expr-in-Pipe-right.ensures.0 c.if-same_expr-2.true) c.same_exprs-then-same_expr-2.ensures

pub same_node-returns-else-same_expr-2 : goal.same_node-returns-else-same_expr-2
same_node-returns-else-same_expr-2 t c = first (both_pipe c.args.left.now c.args.right.now c.in-Pipe.first c.in-Pipe-right.f c.in-Pipe.calls c.in-Pipe-right.cs c.in-Pipe.is c.in-Pipe-right.is) c.same_expr-in-Pipe-right.ensures c.if-same_expr-2.false

pub same_node-returns-in_default-right-11 : goal.same_node-returns-in_default-right-11
same_node-returns-in_default-right-11 t c = apart (not_pipe c.args.left.now c.args.right.now c.in-Pipe.first c.in-Pipe.calls c.in-Pipe.is c.in_default-right-11.not-Pipe)

pub same_node-returns-then-same_expr-3 : goal.same_node-returns-then-same_expr-3
same_node-returns-then-same_expr-3 t c = second (both_member c.args.left.now c.args.right.now c.in-Member.of c.in-Member-right.o c.in-Member.label c.in-Member-right.l c.in-Member.is c.in-Member-right.is) (c.same_expr-in-Member-right.ensures.0 c.if-same_expr-3.true) c.same_text-then-same_expr-3.ensures

pub same_node-returns-else-same_expr-3 : goal.same_node-returns-else-same_expr-3
same_node-returns-else-same_expr-3 t c = first (both_member c.args.left.now c.args.right.now c.in-Member.of c.in-Member-right.o c.in-Member.label c.in-Member-right.l c.in-Member.is c.in-Member-right.is) c.same_expr-in-Member-right.ensures c.if-same_expr-3.false

pub same_node-returns-in_default-right-12 : goal.same_node-returns-in_default-right-12
same_node-returns-in_default-right-12 t c = apart (not_member c.args.left.now c.args.right.now c.in-Member.of c.in-Member.label c.in-Member.is c.in_default-right-12.not-Member)

pub same_node-returns-then-same_expr-4 : goal.same_node-returns-then-same_expr-4
same_node-returns-then-same_expr-4 t c = second (both_index c.args.left.now c.args.right.now c.in-Index.of c.in-Index-right.o c.in-Index.at c.in-Index-right.a c.in-Index.is c.in-Index-right.is) (c.same_expr-in-Index-right.ensures.0 c.if-same_expr-4.true) c.same_expr-then-same_expr-4.ensures

pub same_node-returns-else-same_expr-4 : goal.same_node-returns-else-same_expr-4
same_node-returns-else-same_expr-4 t c = first (both_index c.args.left.now c.args.right.now c.in-Index.of c.in-Index-right.o c.in-Index.at c.in-Index-right.a c.in-Index.is c.in-Index-right.is) c.same_expr-in-Index-right.ensures c.if-same_expr-4.false

pub same_node-returns-in_default-right-13 : goal.same_node-returns-in_default-right-13
same_node-returns-in_default-right-13 t c = apart (not_index c.args.left.now c.args.right.now c.in-Index.of c.in-Index.at c.in-Index.is c.in_default-right-13.not-Index)

pub same_node-returns-then-same_expr-5 : goal.same_node-returns-then-same_expr-5
same_node-returns-then-same_expr-5 t c = second (both_chain c.args.left.now c.args.right.now c.in-Chain.first c.in-Chain-right.f c.in-Chain.rest c.in-Chain-right.r c.in-Chain.is c.in-Chain-right.is) (c.same_expr-in-Chain-right.ensures.0 c.if-same_expr-5.true) c.same_links.ensures

pub same_node-returns-else-same_expr-5 : goal.same_node-returns-else-same_expr-5
same_node-returns-else-same_expr-5 t c = first (both_chain c.args.left.now c.args.right.now c.in-Chain.first c.in-Chain-right.f c.in-Chain.rest c.in-Chain-right.r c.in-Chain.is c.in-Chain-right.is) c.same_expr-in-Chain-right.ensures c.if-same_expr-5.false

pub same_node-returns-in_default-right-14 : goal.same_node-returns-in_default-right-14
same_node-returns-in_default-right-14 t c = apart (not_chain c.args.left.now c.args.right.now c.in-Chain.first c.in-Chain.rest c.in-Chain.is c.in_default-right-14.not-Chain)

pub same_node-returns-then-same_sign : goal.same_node-returns-then-same_sign
same_node-returns-then-same_sign t c = second (both_prefix c.args.left.now c.args.right.now c.in-Prefix.sign c.in-Prefix-right.s c.in-Prefix.of c.in-Prefix-right.o c.in-Prefix.is c.in-Prefix-right.is) (c.same_sign.ensures.0 c.if-same_sign.true) c.same_expr-then-same_sign.ensures

pub same_node-returns-else-same_sign : goal.same_node-returns-else-same_sign
same_node-returns-else-same_sign t c = first (both_prefix c.args.left.now c.args.right.now c.in-Prefix.sign c.in-Prefix-right.s c.in-Prefix.of c.in-Prefix-right.o c.in-Prefix.is c.in-Prefix-right.is) c.same_sign.ensures c.if-same_sign.false

pub same_node-returns-in_default-right-15 : goal.same_node-returns-in_default-right-15
same_node-returns-in_default-right-15 t c = apart (not_prefix c.args.left.now c.args.right.now c.in-Prefix.sign c.in-Prefix.of c.in-Prefix.is c.in_default-right-15.not-Prefix)

pub same_node-returns-else-same_expr-6 : goal.same_node-returns-else-same_expr-6
same_node-returns-else-same_expr-6 t c = first (both_if c.args.left.now c.args.right.now c.in-If.test c.in-If-right.t c.in-If.yes c.in-If-right.y c.in-If.no c.in-If-right.n c.in-If.is c.in-If-right.is) c.same_expr-in-If-right.ensures c.if-same_expr-6.false

pub same_node-returns-then-same_expr-7 : goal.same_node-returns-then-same_expr-7
same_node-returns-then-same_expr-7 t c = second (both_if c.args.left.now c.args.right.now c.in-If.test c.in-If-right.t c.in-If.yes c.in-If-right.y c.in-If.no c.in-If-right.n c.in-If.is c.in-If-right.is) (c.same_expr-in-If-right.ensures.0 c.if-same_expr-6.true) (second whole (c.same_expr-then-same_expr-6.ensures.0 c.if-same_expr-7.true) c.same_expr-then-same_expr-7.ensures)

pub same_node-returns-else-same_expr-7 : goal.same_node-returns-else-same_expr-7
same_node-returns-else-same_expr-7 t c = second (both_if c.args.left.now c.args.right.now c.in-If.test c.in-If-right.t c.in-If.yes c.in-If-right.y c.in-If.no c.in-If-right.n c.in-If.is c.in-If-right.is) (c.same_expr-in-If-right.ensures.0 c.if-same_expr-6.true) (first whole c.same_expr-then-same_expr-6.ensures c.if-same_expr-7.false)

pub same_node-returns-in_default-right-16 : goal.same_node-returns-in_default-right-16
same_node-returns-in_default-right-16 t c = apart (not_if c.args.left.now c.args.right.now c.in-If.test c.in-If.yes c.in-If.no c.in-If.is c.in_default-right-16.not-If)

pub same_exprs-returns-then-left-right : goal.same_exprs-returns-then-left-right
same_exprs-returns-then-left-right t c =
    shorter (λ x. bare (tree_of x)) c.args.left.now c.args.right.now c.as_slice-left.result.now c.as_slice-right.result.now (exprs_by_item c.args.left.now c.args.right.now) c.as_slice-left.ensures c.as_slice-right.ensures c.if-left-right.true

pub same_exprs-returns-then-not-same_expr : goal.same_exprs-returns-then-not-same_expr
same_exprs-returns-then-not-same_expr t c =
    differs (λ x. bare (tree_of x)) c.args.left.now c.args.right.now c.as_slice-left.result.now c.as_slice-right.result.now c.loop-i.i c.index-left-i.result c.index-right-i.result (exprs_by_item c.args.left.now c.args.right.now) c.as_slice-left.ensures c.as_slice-right.ensures c.if-left-right.false c.loop-i-test.true c.index-left-i.is c.index-right-i.is c.same_expr.ensures c.if-not-same_expr.true

pub same_exprs-returns : goal.same_exprs-returns
same_exprs-returns t c =
    ends (λ x. bare (tree_of x)) c.args.left.now c.args.right.now c.as_slice-left.result.now c.as_slice-right.result.now c.loop-i.i (exprs_by_item c.args.left.now c.args.right.now) c.as_slice-left.ensures c.as_slice-right.ensures c.if-left-right.false c.loop-i-test.false c.loop-i.invariant

pub same_props-returns-then-left-right : goal.same_props-returns-then-left-right
same_props-returns-then-left-right t c =
    shorter (λ x. bare_prop (prop x)) c.args.left.now c.args.right.now c.as_slice-left.result.now c.as_slice-right.result.now (props_by_item c.args.left.now c.args.right.now) c.as_slice-left.ensures c.as_slice-right.ensures c.if-left-right.true

pub same_props-returns-then-not-same_prop : goal.same_props-returns-then-not-same_prop
same_props-returns-then-not-same_prop t c =
    differs (λ x. bare_prop (prop x)) c.args.left.now c.args.right.now c.as_slice-left.result.now c.as_slice-right.result.now c.loop-i.i c.index-left-i.result c.index-right-i.result (props_by_item c.args.left.now c.args.right.now) c.as_slice-left.ensures c.as_slice-right.ensures c.if-left-right.false c.loop-i-test.true c.index-left-i.is c.index-right-i.is c.same_prop.ensures c.if-not-same_prop.true

pub same_props-returns : goal.same_props-returns
same_props-returns t c =
    ends (λ x. bare_prop (prop x)) c.args.left.now c.args.right.now c.as_slice-left.result.now c.as_slice-right.result.now c.loop-i.i (props_by_item c.args.left.now c.args.right.now) c.as_slice-left.ensures c.as_slice-right.ensures c.if-left-right.false c.loop-i-test.false c.loop-i.invariant

pub same_params-returns-then-left-right : goal.same_params-returns-then-left-right
same_params-returns-then-left-right t c =
    shorter (λ x. bare_param (param x)) c.args.left.now c.args.right.now c.as_slice-left.result.now c.as_slice-right.result.now (params_by_item c.args.left.now c.args.right.now) c.as_slice-left.ensures c.as_slice-right.ensures c.if-left-right.true

pub same_params-returns-then-not-same_param : goal.same_params-returns-then-not-same_param
same_params-returns-then-not-same_param t c =
    differs (λ x. bare_param (param x)) c.args.left.now c.args.right.now c.as_slice-left.result.now c.as_slice-right.result.now c.loop-i.i c.index-left-i.result c.index-right-i.result (params_by_item c.args.left.now c.args.right.now) c.as_slice-left.ensures c.as_slice-right.ensures c.if-left-right.false c.loop-i-test.true c.index-left-i.is c.index-right-i.is c.same_param.ensures c.if-not-same_param.true

pub same_params-returns : goal.same_params-returns
same_params-returns t c =
    ends (λ x. bare_param (param x)) c.args.left.now c.args.right.now c.as_slice-left.result.now c.as_slice-right.result.now c.loop-i.i (params_by_item c.args.left.now c.args.right.now) c.as_slice-left.ensures c.as_slice-right.ensures c.if-left-right.false c.loop-i-test.false c.loop-i.invariant

pub same_links-returns-then-left-right : goal.same_links-returns-then-left-right
same_links-returns-then-left-right t c =
    shorter (λ x. bare_link (link x)) c.args.left.now c.args.right.now c.as_slice-left.result.now c.as_slice-right.result.now (links_by_item c.args.left.now c.args.right.now) c.as_slice-left.ensures c.as_slice-right.ensures c.if-left-right.true

pub same_links-returns-then-not-same_link : goal.same_links-returns-then-not-same_link
same_links-returns-then-not-same_link t c =
    differs (λ x. bare_link (link x)) c.args.left.now c.args.right.now c.as_slice-left.result.now c.as_slice-right.result.now c.loop-i.i c.index-left-i.result c.index-right-i.result (links_by_item c.args.left.now c.args.right.now) c.as_slice-left.ensures c.as_slice-right.ensures c.if-left-right.false c.loop-i-test.true c.index-left-i.is c.index-right-i.is c.same_link.ensures c.if-not-same_link.true

pub same_links-returns : goal.same_links-returns
same_links-returns t c =
    ends (λ x. bare_link (link x)) c.args.left.now c.args.right.now c.as_slice-left.result.now c.as_slice-right.result.now c.loop-i.i (links_by_item c.args.left.now c.args.right.now) c.as_slice-left.ensures c.as_slice-right.ensures c.if-left-right.false c.loop-i-test.false c.loop-i.invariant

pub same_parts-returns-then-left-right : goal.same_parts-returns-then-left-right
same_parts-returns-then-left-right t c =
    shorter (λ x. bare_part (part x)) c.args.left.now c.args.right.now c.as_slice-left.result.now c.as_slice-right.result.now (parts_by_item c.args.left.now c.args.right.now) c.as_slice-left.ensures c.as_slice-right.ensures c.if-left-right.true

pub same_parts-returns-then-not-same_part : goal.same_parts-returns-then-not-same_part
same_parts-returns-then-not-same_part t c =
    differs (λ x. bare_part (part x)) c.args.left.now c.args.right.now c.as_slice-left.result.now c.as_slice-right.result.now c.loop-i.i c.index-left-i.result c.index-right-i.result (parts_by_item c.args.left.now c.args.right.now) c.as_slice-left.ensures c.as_slice-right.ensures c.if-left-right.false c.loop-i-test.true c.index-left-i.is c.index-right-i.is c.same_part.ensures c.if-not-same_part.true

pub same_parts-returns : goal.same_parts-returns
same_parts-returns t c =
    ends (λ x. bare_part (part x)) c.args.left.now c.args.right.now c.as_slice-left.result.now c.as_slice-right.result.now c.loop-i.i (parts_by_item c.args.left.now c.args.right.now) c.as_slice-left.ensures c.as_slice-right.ensures c.if-left-right.false c.loop-i-test.false c.loop-i.invariant
