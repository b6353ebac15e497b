use Rattle.std.proofs.Common.{FitsSigned, IfOk, None, Some, refl, ap, arith, map, rules, subst, sym, take, ◌∙◌, ◌≡◌, ◌+◌}
use Rattle.std.specs.Option.{option_copied}
use Rattle.std.specs.Int.{w64}
use Rattle.std.proofs.lemmas.Int.{to_z-of_z}
use Rattle.fx_ast.specs.Shape.{body, default_of, param, params_of, link, links_of, part, parts_of, prop, props_of, shape_of, tree_of, trees_of}
use Rattle.fx_ast.specs.Tree.{array, fun, chain, if_then, index, int, member, name, paren, pattern, prefix, rec, span, text, time, call, pipe, tree}
use Rattle.fx_ast.proofs.ShapeLaws.{default_value, shape_fun, part_hole, part_piece, shape_array, shape_chain, shape_if, shape_index, shape_int, shape_member, shape_name, shape_paren, shape_pattern, shape_prefix, shape_rec, shape_span, shape_text, shape_time, shape_call, shape_pipe}
use Rattle.fx_schemes.specs.Names.{builtin_of}
use Rattle.fx_types.specs.Ground.{g_rec, g_is}
use Rattle.fx_types.specs.Instance.{ground, ground_fields, ground_tail, ground_labels, ground_pipe}
use Rattle.fx_types.specs.Shape.{term, entry_term, fields_of, rest_term, pipe_of}
use Rattle.std.specs.Prelude.{option_map}
use Rattle.fx_types.specs.Term.{no_pipe}
use Rattle.fx_infer.specs.Finds.{Finds, FindsThat, FindsLine, line_under}
use Rattle.fx_infer.specs.Infers.{Infers, HasNone, AreBelow}
use Rattle.fx_infer.specs.Environment.{scope}
use Rattle.fx_infer.specs.Names.{TypeOf, ShapeOf, env_under, IsNewest, LinkOf}
use Rattle.fx_infer.specs.Operators.{Prefixed}
use Rattle.fx_infer.specs.Records.{BaseOf, MakesOf, FindsRow, FindsFields}
use Rattle.fx_infer.specs.Rules.{HasElement, HasField}
use Rattle.fx_infer.specs.Texts.{PartOf}
use Rattle.fx_infer.proofs.ArmLaws.{at_node, type_reads, one_part, none_part, two_parts, none_of_first, none_of_second, prefix_is, index_is, names_later}
use Rattle.fx_infer.proofs.MemberArms.{Told, native_member, field_member}
use Rattle.fx_infer.proofs.RecordArms.{record_is, no_record, base_is, makes_reads, fields_start, fields_grow, fields_all, no_field}
use Rattle.fx_infer.proofs.TextArms.{hole_found, no_hole, piece_found, text_grow, no_part, text_found}
use Rattle.fx_infer.proofs.TypingLaws.{typed_type}
use Rattle.fx_types.specs.declared.term.Ty.TheVariants as ty
use Rattle.fx_types.proofs.ShapeLaws.{term_bool, term_variable}
use Rattle.fx_infer.proofs.MoreArms.{typed_asked, if_found, no_test, no_branch, no_other, if_is, no_item, items_grow, items_all, array_found, no_array, at_later, below_more}
use Rattle.fx_infer.proofs.ScopeLaws.{names_below}
use Rattle.fx_types.specs.Size.{IsType}
use Rattle.fx_infer.specs.Ask.{type_is}
use Rattle.fx_infer.specs.Native.{native, natives}
use Rattle.fx_infer.proofs.InfersLaws.{instead}
use Rattle.fx_infer.proofs.NameArms.{finds_same, finds_instead, found_place, free_is, param_is, value_is, no_package, prefix_below}
use Rattle.fx_infer.proofs.ChainArms.{chain_start, chain_grow, no_link, chain_found, link_found}
use Rattle.fx_infer.specs.Callees.{ArgOf, ArgsOf, AreArgs, FindsArg, FindsArgs, CallOf, NativeCallOf, ValueCallOf, PipedOf, IsCallee}
use Rattle.fx_schemes.specs.Builtins.{differ}
use Rattle.fx_unify.specs.Solutions.{next_of}
use Rattle.fx_infer.specs.Calls.{IsCalled}
use Rattle.fx_infer.specs.Lists.{entry_names, labels_in}
use Rattle.fx_infer.specs.Uses.{IsTypedLine}
use Rattle.fx_infer.proofs.ArgLaws.{args_start, args_more, args_all, no_arg, new_arg, once_is, said_arg, typed_found, no_typed_arg}
use Rattle.fx_infer.proofs.CallingLaws.{not_once, as_value, as_native, value_found, value_none, value_args_none, native_wordless, native_no_line, native_args_none, native_found, lines_apart, line_below, optional_below, given_below, term_below, plain_call, piped_call}
use Rattle.fx_infer.proofs.PipeArms.{pipes_start, no_input, pipes_grow, no_piped, pipes_found}
use Rattle.fx_infer.proofs.WrittenLaws.{at_shape, no_call}
use Rattle.fx_ast.specs.declared.expr.Node.TheViews.{out-Body}
use Rattle.fx_infer.specs.Functions.{BlockIn, DefaultOf, FindsBlock, ParamOf, inside}
use Rattle.fx_infer.proofs.BlockLaws.{is_required, is_piped, one_name}
use Rattle.fx_infer.proofs.FunctionArms.{block_declared, block_ends, block_stops, block_undeclared, default_found, function_found, no_block, no_default, no_default_needed, no_default_value, no_param, no_params, param_found, params_all, params_grow_on, piped_default, required_default, undeclared}
use Rattle.fx_infer.proofs.LetArms.{behind_grow, lets_grow}
use Rattle.fx_infer.proofs.infer.+infer.Goals as goal

pub infer-returns-in-Int : goal.infer-returns-in-Int
infer-returns-in-Int t c =
    let fits : FitsSigned w64 c.in-Int.value = search rules in
    subst (λ T. Infers T c.args.bindings c.int_type.result.bindings (λ s. ground s (term c.int_type.result.ty)))
    (at_node c.args.names.now c.args.expr.now c.get.result.now (int c.in-Int.value) c.get.ensures (ap shape_of c.in-Int.is ∙ shape_int c.in-Int.value)) (simp to_z-of_z at c.int_type.ensures)

pub infer-returns-in-Time : goal.infer-returns-in-Time
infer-returns-in-Time t c =
    let fits : FitsSigned w64 c.in-Time.value = search rules in
    subst (λ T. Infers T c.args.bindings c.time_type.result.bindings (λ s. ground s (term c.time_type.result.ty)))
    (at_node c.args.names.now c.args.expr.now c.get.result.now (time c.in-Time.value) c.get.ensures (ap shape_of c.in-Time.is ∙ shape_time c.in-Time.value)) (simp to_z-of_z at c.time_type.ensures)

pub infer-returns-in-Span : goal.infer-returns-in-Span
infer-returns-in-Span t c =
    let months : FitsSigned w64 c.in-Span.value.months = search rules in
    let nanos : FitsSigned w64 c.in-Span.value.nanos = search rules in
    subst (λ T. Infers T c.args.bindings c.span_type.result.bindings (λ s. ground s (term c.span_type.result.ty)))
    (at_node c.args.names.now c.args.expr.now c.get.result.now (span c.in-Span.value) c.get.ensures (ap shape_of c.in-Span.is ∙ shape_span c.in-Span.value)) (simp to_z-of_z at c.span_type.ensures)

pub infer-returns-in-Pattern : goal.infer-returns-in-Pattern
infer-returns-in-Pattern t c =
    subst (λ T. Infers T c.args.bindings c.pattern_type.result.bindings (λ s. ground s (term c.pattern_type.result.ty)))
    (at_node c.args.names.now c.args.expr.now c.get.result.now (pattern c.in-Pattern.field-0) c.get.ensures (ap shape_of c.in-Pattern.is ∙ shape_pattern c.in-Pattern.field-0)) c.pattern_type.ensures

pub infer-returns-in-Paren : goal.infer-returns-in-Paren
infer-returns-in-Paren t c =
    subst (λ T. IfOk c.infer.result (Finds T c.args.bindings)) (at_node c.args.names.now c.args.expr.now c.get.result.now (paren (tree_of c.in-Paren.inner)) c.get.ensures (ap shape_of c.in-Paren.is ∙ shape_paren c.in-Paren.inner)) c.infer.ensures

pub infer-returns-in-Prefix : goal.infer-returns-in-Prefix
infer-returns-in-Prefix t c =
    subst (λ T. IfOk c.infer_prefix.result (Finds T c.args.bindings))
    (at_node c.args.names.now c.args.expr.now c.get.result.now (prefix c.in-Prefix.sign (tree_of c.in-Prefix.of)) c.get.ensures (ap shape_of c.in-Prefix.is ∙ shape_prefix c.in-Prefix.sign c.in-Prefix.of)) c.infer_prefix.ensures

pub infer-returns-in-Index : goal.infer-returns-in-Index
infer-returns-in-Index t c =
    subst (λ T. IfOk c.infer_index.result (Finds T c.args.bindings))
    (at_node c.args.names.now c.args.expr.now c.get.result.now (index (tree_of c.in-Index.of) (tree_of c.in-Index.at)) c.get.ensures (ap shape_of c.in-Index.is ∙ shape_index c.in-Index.of c.in-Index.at)) c.infer_index.ensures

-- members

pub infer-returns-in-Member : goal.infer-returns-in-Member
infer-returns-in-Member t c =
    subst (λ T. IfOk c.infer_member.result (Finds T c.args.bindings))
    (at_node c.args.names.now c.args.expr.now c.get.result.now (member (tree_of c.in-Member.of) c.in-Member.label) c.get.ensures (ap shape_of c.in-Member.is ∙ shape_member c.in-Member.of c.in-Member.label)) c.infer_member.ensures

pub infer_member-returns-in-Some : goal.infer_member-returns-in-Some
infer_member-returns-in-Some t c =
    finds_same (λ s u. IsType u × native (builtin_of c.in-Some.path.now c.args.label.now) (type_is u)) (ShapeOf c.args.names.now (member (tree_of c.args.of.now) c.args.label.now)) c.args.bindings c.in_ok-native_of.field-0
    (native_member c.args.names.now c.args.of.now c.args.label.now c.in-Some.path.now (subst (λ o. Told c.args.names.now c.args.of.now (option_copied o)) c.in-Some.is c.package.ensures)) c.in_ok-native_of.ensures

pub infer_member-field_of-requires-clause-typed : goal.infer_member-field_of-requires-clause-typed
infer_member-field_of-requires-clause-typed t c s h =
    let one : Infers (TypeOf c.args.names.now c.args.of.now) c.args.bindings c.in-Some-2.found.bindings (λ q. ground q (term c.in-Some-2.found.ty)) = subst (Finds (TypeOf c.args.names.now c.args.of.now) c.args.bindings) c.in-Some-2.is c.in_ok-found.ensures in
    typed_type (tree_of c.args.of.now) (scope (env_under s c.args.names.now)) (ground s (term c.in-Some-2.found.ty)) (one.sound s h)

pub infer_member-returns-in_ok-field_of-in-Some-2 : goal.infer_member-returns-in_ok-field_of-in-Some-2
infer_member-returns-in_ok-field_of-in-Some-2 t c =
    one_part (TypeOf c.args.names.now c.args.of.now) (HasField c.args.label.now) (ShapeOf c.args.names.now (member (tree_of c.args.of.now) c.args.label.now)) c.args.bindings
    (field_member c.args.names.now c.args.of.now c.args.label.now (subst (λ o. Told c.args.names.now c.args.of.now (option_copied o)) c.in_default.is c.package.ensures))
    c.in-Some-2.found.bindings c.in_ok-field_of-in-Some-2.field-0.bindings (λ s. ground s (term c.in-Some-2.found.ty)) (λ s. ground s (term c.in_ok-field_of-in-Some-2.field-0.ty))
    (subst (Finds (TypeOf c.args.names.now c.args.of.now) c.args.bindings) c.in-Some-2.is c.in_ok-found.ensures) c.in_ok-field_of-in-Some-2.ensures

pub infer_member-returns-in-None : goal.infer_member-returns-in-None
infer_member-returns-in-None t c =
    none_part (TypeOf c.args.names.now c.args.of.now) (HasField c.args.label.now) (ShapeOf c.args.names.now (member (tree_of c.args.of.now) c.args.label.now)) c.args.bindings
    (field_member c.args.names.now c.args.of.now c.args.label.now (subst (λ o. Told c.args.names.now c.args.of.now (option_copied o)) c.in_default.is c.package.ensures))
    (subst (Finds (TypeOf c.args.names.now c.args.of.now) c.args.bindings) c.in-None.is c.in_ok-found.ensures)

-- records

pub infer-returns-in-Rec : goal.infer-returns-in-Rec
infer-returns-in-Rec t c =
    subst (λ T. IfOk c.infer_record.result (Finds T c.args.bindings))
    (ap (λ ps. ShapeOf c.args.names.now (rec c.in-Rec.base (props_of (map prop ps)))) c.as_slice-in-Rec.ensures
    ∙ at_node c.args.names.now c.args.expr.now c.get.result.now (rec c.in-Rec.base (props_of (map prop c.in-Rec.props))) c.get.ensures (ap shape_of c.in-Rec.is ∙ shape_rec c.in-Rec.base c.in-Rec.props)) c.infer_record.ensures

pub infer_record-returns-then-not-labels_differ : goal.infer_record-returns-then-not-labels_differ
infer_record-returns-then-not-labels_differ t c = no_record c.args.names.now c.args.base.now c.args.props.now c.args.bindings (sym c.labels_differ.ensures ∙ c.if-not-labels_differ.true)

pub infer_record-returns-in-None : goal.infer_record-returns-in-None
infer_record-returns-in-None t c =
    none_of_first (BaseOf c.args.names.now c.args.base.now) (MakesOf c.args.names.now c.args.props.now) (λ p F u. IsType u × (u ≡ g_rec (F p))) (ShapeOf c.args.names.now (rec c.args.base.now (props_of (map prop c.args.props.now)))) c.args.bindings
    (makes_reads _ c.args.names.now c.args.props.now c.requires) (record_is c.args.names.now c.args.base.now c.args.props.now (sym c.labels_differ.ensures ∙ c.if-not-labels_differ.false))
    (subst (FindsRow (BaseOf c.args.names.now c.args.base.now) c.args.bindings) c.in-None.is c.in_ok-based.ensures)

pub infer_record-returns-in_ok-record_type-in-Some-2 : goal.infer_record-returns-in_ok-record_type-in-Some-2
infer_record-returns-in_ok-record_type-in-Some-2 t c =
    two_parts (BaseOf c.args.names.now c.args.base.now) (MakesOf c.args.names.now c.args.props.now) (λ p F u. IsType u × (u ≡ g_rec (F p))) (ShapeOf c.args.names.now (rec c.args.base.now (props_of (map prop c.args.props.now)))) c.args.bindings
    (makes_reads _ c.args.names.now c.args.props.now c.requires) (record_is c.args.names.now c.args.base.now c.args.props.now (sym c.labels_differ.ensures ∙ c.if-not-labels_differ.false))
    c.in-Some.based.bindings c.in-Some-2.made.bindings c.in_ok-record_type-in-Some-2.field-0.bindings (λ s. ground_tail s (rest_term c.in-Some.based.rest)) (λ s. ground_fields s (fields_of (map entry_term c.in-Some-2.made.fields))) (λ s. ground s (term c.in_ok-record_type-in-Some-2.field-0.ty))
    (subst (FindsRow (BaseOf c.args.names.now c.args.base.now) c.args.bindings) c.in-Some.is c.in_ok-based.ensures)
    (subst (FindsFields (MakesOf c.args.names.now c.args.props.now) c.in-Some.based.bindings) c.in-Some-2.is c.in_ok-made.ensures) c.in_ok-record_type-in-Some-2.ensures

pub infer_record-returns-in-None-2 : goal.infer_record-returns-in-None-2
infer_record-returns-in-None-2 t c =
    none_of_second (BaseOf c.args.names.now c.args.base.now) (MakesOf c.args.names.now c.args.props.now) (λ p F u. IsType u × (u ≡ g_rec (F p))) (ShapeOf c.args.names.now (rec c.args.base.now (props_of (map prop c.args.props.now)))) c.args.bindings
    (makes_reads _ c.args.names.now c.args.props.now c.requires) (record_is c.args.names.now c.args.base.now c.args.props.now (sym c.labels_differ.ensures ∙ c.if-not-labels_differ.false))
    c.in-Some.based.bindings (λ s. ground_tail s (rest_term c.in-Some.based.rest))
    (subst (FindsRow (BaseOf c.args.names.now c.args.base.now) c.args.bindings) c.in-Some.is c.in_ok-based.ensures)
    (subst (FindsFields (MakesOf c.args.names.now c.args.props.now) c.in-Some.based.bindings) c.in-None-2.is c.in_ok-made.ensures)

pub infer_base-returns-in-None : goal.infer_base-returns-in-None
infer_base-returns-in-None t c =
    subst (λ o. Infers (BaseOf c.args.names.now o) c.args.bindings c.no_row.result.bindings (λ s. ground_tail s (rest_term c.no_row.result.rest))) (sym c.in-None.is) c.no_row.ensures

pub infer_base-returns-in_ok-row_of-in-Some-2 : goal.infer_base-returns-in_ok-row_of-in-Some-2
infer_base-returns-in_ok-row_of-in-Some-2 t c =
    subst (λ o. Infers (BaseOf c.args.names.now o) c.args.bindings c.in_ok-row_of-in-Some-2.field-0.bindings (λ s. ground_tail s (rest_term c.in_ok-row_of-in-Some-2.field-0.rest))) (sym c.in-Some.is)
    (one_part (ShapeOf c.args.names.now (name c.in-Some.label)) (λ u r. u ≡ g_rec r) (BaseOf c.args.names.now (Some c.in-Some.label)) c.args.bindings (base_is c.args.names.now c.in-Some.label)
    c.in-Some-2.found.bindings c.in_ok-row_of-in-Some-2.field-0.bindings (λ s. ground s (term c.in-Some-2.found.ty)) (λ s. ground_tail s (rest_term c.in_ok-row_of-in-Some-2.field-0.rest))
    (subst (Finds (ShapeOf c.args.names.now (name c.in-Some.label)) c.args.bindings) c.in-Some-2.is c.in_ok-found.ensures) c.in_ok-row_of-in-Some-2.ensures)

pub infer_fields-loop-prop-init : goal.infer_fields-loop-prop-init
infer_fields-loop-prop-init t c = fields_start c.args.names.now c.args.props.now c.args.bindings c.requires _ c.empty-fields.ensures

pub infer_fields-returns-in-None : goal.infer_fields-returns-in-None
infer_fields-returns-in-None t c =
    no_field c.args.names.now c.args.props.now c.args.bindings c.requires c.loop-prop.asked c.loop-prop.fields c.loop-prop.prop-index c.prop-item.result c.loop-prop-test.true c.prop-item.is c.loop-prop.invariant
    (subst (Finds (TypeOf c.args.names.now c.prop-item.result.value) c.loop-prop.asked) c.in-None.is c.in_ok-found.ensures)

pub infer_fields-loop-prop-preserved : goal.infer_fields-loop-prop-preserved
infer_fields-loop-prop-preserved t c =
    fields_grow c.args.names.now c.args.props.now c.args.bindings c.requires c.loop-prop.asked c.loop-prop.fields c.loop-prop.prop-index c.prop-item.result c.loop-prop-test.true c.prop-item.is c.loop-prop.invariant
    c.in-Some.found.bindings (term c.in-Some.found.ty) c.in_ok-entry.field-0 _ (subst (Finds (TypeOf c.args.names.now c.prop-item.result.value) c.loop-prop.asked) c.in-Some.is c.in_ok-found.ensures) c.in_ok-entry.ensures c.in_ok-push.ensures.ok

pub infer_fields-returns : goal.infer_fields-returns
infer_fields-returns t c =
    fields_all c.args.names.now c.args.props.now c.args.bindings c.requires c.loop-prop.asked (λ s. ground_fields s (fields_of (map entry_term c.loop-prop.fields))) c.loop-prop.prop-index c.loop-prop-test.false c.loop-prop.invariant

-- texts

pub infer-returns-in-Text : goal.infer-returns-in-Text
infer-returns-in-Text t c =
    subst (λ T. IfOk c.infer_text.result (Finds T c.args.bindings))
    (ap (λ ps. ShapeOf c.args.names.now (text (parts_of (map part ps)))) c.as_slice.ensures
    ∙ at_node c.args.names.now c.args.expr.now c.get.result.now (text (parts_of (map part c.in-Text.parts))) c.get.ensures (ap shape_of c.in-Text.is ∙ shape_text c.in-Text.parts)) c.infer_text.ensures

pub infer_text-returns-in-None : goal.infer_text-returns-in-None
infer_text-returns-in-None t c =
    no_part c.args.names.now c.args.parts.now c.args.bindings c.requires c.loop-next.asked c.loop-next.next-index c.next-item.result c.loop-next-test.true c.next-item.is c.loop-next.invariant
    (subst (FindsThat (PartOf c.args.names.now c.next-item.result) c.loop-next.asked) c.in-None.is c.in_ok-bindings.ensures)

pub infer_text-loop-next-preserved : goal.infer_text-loop-next-preserved
infer_text-loop-next-preserved t c =
    text_grow c.args.names.now c.args.parts.now c.args.bindings c.requires c.loop-next.asked c.loop-next.next-index c.next-item.result c.loop-next-test.true c.next-item.is c.loop-next.invariant c.in-Some.bindings
    (subst (FindsThat (PartOf c.args.names.now c.next-item.result) c.loop-next.asked) c.in-Some.is c.in_ok-bindings.ensures)

pub infer_text-returns : goal.infer_text-returns
infer_text-returns t c =
    text_found c.args.names.now c.args.parts.now c.args.bindings c.requires c.loop-next.asked c.text_type.result.bindings c.loop-next.next-index (λ s. ground s (term c.text_type.result.ty)) c.loop-next-test.false c.loop-next.invariant c.text_type.ensures

pub infer_part-returns-in-Piece : goal.infer_part-returns-in-Piece
infer_part-returns-in-Piece t c = piece_found c.args.names.now c.args.next.now c.in-Piece.field-0 c.args.bindings (ap part c.in-Piece.is ∙ part_piece c.in-Piece.field-0)

pub infer_part-returns-in_ok-among-in-Some : goal.infer_part-returns-in_ok-among-in-Some
infer_part-returns-in_ok-among-in-Some t c =
    hole_found c.args.names.now c.args.next.now c.in-Hole.hole c.args.bindings c.in-Some.found.bindings c.in_ok-among-in-Some.field-0 (λ s. ground s (term c.in-Some.found.ty)) (ap part c.in-Hole.is ∙ part_hole c.in-Hole.hole)
    (subst (Finds (TypeOf c.args.names.now c.in-Hole.hole) c.args.bindings) c.in-Some.is c.in_ok-found.ensures) c.in_ok-among-in-Some.ensures

pub infer_part-returns-in-None : goal.infer_part-returns-in-None
infer_part-returns-in-None t c =
    no_hole c.args.names.now c.args.next.now c.in-Hole.hole c.args.bindings (ap part c.in-Hole.is ∙ part_hole c.in-Hole.hole) (subst (Finds (TypeOf c.args.names.now c.in-Hole.hole) c.args.bindings) c.in-None.is c.in_ok-found.ensures)

pub infer_prefix-returns-in_ok-prefixed-in-Some : goal.infer_prefix-returns-in_ok-prefixed-in-Some
infer_prefix-returns-in_ok-prefixed-in-Some t c =
    one_part (TypeOf c.args.names.now c.args.of.now) (Prefixed c.args.sign) (ShapeOf c.args.names.now (prefix c.args.sign (tree_of c.args.of.now))) c.args.bindings (prefix_is c.args.sign c.args.names.now c.args.of.now)
    c.in-Some.found.bindings c.in_ok-prefixed-in-Some.field-0.bindings (λ s. ground s (term c.in-Some.found.ty)) _
    (subst (Finds (TypeOf c.args.names.now c.args.of.now) c.args.bindings) c.in-Some.is c.in_ok-found.ensures) c.in_ok-prefixed-in-Some.ensures

pub infer_index-infer-requires-2 : goal.infer_index-infer-requires-2
infer_index-infer-requires-2 t c = (
  omega arith,
  names_later (TypeOf c.args.names.now c.args.of.now) c.args.bindings c.in-Some.found.bindings (λ s. ground s (term c.in-Some.found.ty)) c.args.names.now
      (subst (Finds (TypeOf c.args.names.now c.args.of.now) c.args.bindings) c.in-Some.is c.in_ok-found.ensures) c.requires,
)

pub infer_index-returns-in-Some-2 : goal.infer_index-returns-in-Some-2
infer_index-returns-in-Some-2 t c =
    two_parts (TypeOf c.args.names.now c.args.of.now) (TypeOf c.args.names.now c.args.at.now) HasElement (ShapeOf c.args.names.now (index (tree_of c.args.of.now) (tree_of c.args.at.now))) c.args.bindings
    (type_reads _ c.args.names.now c.args.at.now c.requires) (index_is c.args.names.now c.args.of.now c.args.at.now)
    c.in-Some.found.bindings c.in-Some-2.place.bindings c.in_ok-element_of-in-Some-2.field-0.bindings (λ s. ground s (term c.in-Some.found.ty)) (λ s. ground s (term c.in-Some-2.place.ty)) _
    (subst (Finds (TypeOf c.args.names.now c.args.of.now) c.args.bindings) c.in-Some.is c.in_ok-found.ensures)
    (subst (Finds (TypeOf c.args.names.now c.args.at.now) c.in-Some.found.bindings) c.in-Some-2.is c.in_ok-place.ensures) c.in_ok-element_of-in-Some-2.ensures

pub infer-returns-in-If : goal.infer-returns-in-If
infer-returns-in-If t c =
    subst (λ T. IfOk c.infer_if.result (Finds T c.args.bindings))
    (at_node c.args.names.now c.args.expr.now c.get.result.now (if_then (tree_of c.in-If.test) (tree_of c.in-If.yes) (tree_of c.in-If.no)) c.get.ensures (ap shape_of c.in-If.is ∙ shape_if c.in-If.test c.in-If.yes c.in-If.no)) c.infer_if.ensures

pub infer-returns-in-Array : goal.infer-returns-in-Array
infer-returns-in-Array t c =
    subst (λ T. IfOk c.infer_array.result (Finds T c.args.bindings))
    (ap (λ es. ShapeOf c.args.names.now (array (trees_of (map tree_of es)))) c.as_slice-in-Array.ensures
    ∙ at_node c.args.names.now c.args.expr.now c.get.result.now (array (trees_of (map tree_of c.in-Array.items))) c.get.ensures (ap shape_of c.in-Array.is ∙ shape_array c.in-Array.items)) c.infer_array.ensures

pub typed-returns-in_ok-equal-in-Some : goal.typed-returns-in_ok-equal-in-Some
typed-returns-in_ok-equal-in-Some t c =
    typed_asked (TypeOf c.args.names.now c.args.expr.now) c.args.bindings c.in-Some.found.bindings c.in_ok-equal-in-Some.field-0 (λ s. ground s (term c.in-Some.found.ty)) (term c.args.wanted.now) c.requires.wanted
    (subst (Finds (TypeOf c.args.names.now c.args.expr.now) c.args.bindings) c.in-Some.is c.in_ok-found.ensures) c.in_ok-equal-in-Some.ensures

pub infer_if-typed-requires : goal.infer_if-typed-requires
infer_if-typed-requires t c = (omega arith, (c.requires, λ s q agree. ap (ground s) term_bool ∙ sym (ap (ground q) term_bool)))

pub infer_if-returns-in-None : goal.infer_if-returns-in-None
infer_if-returns-in-None t c =
    no_test (λ s. TypeOf c.args.names.now c.args.test.now s (ground s (term ty.Bool))) (TypeOf c.args.names.now c.args.yes.now) (TypeOf c.args.names.now c.args.no.now) (ShapeOf c.args.names.now (if_then (tree_of c.args.test.now) (tree_of c.args.yes.now) (tree_of c.args.no.now))) c.args.bindings
    (type_reads _ c.args.names.now c.args.yes.now c.requires) (type_reads _ c.args.names.now c.args.no.now c.requires) (if_is c.args.names.now c.args.test.now c.args.yes.now c.args.no.now (term ty.Bool) (λ s. ap (ground s) term_bool))
    (subst (FindsThat (λ s. TypeOf c.args.names.now c.args.test.now s (ground s (term ty.Bool))) c.args.bindings) c.in-None.is c.in_ok-tested.ensures)

pub infer_if-returns-in-None-2 : goal.infer_if-returns-in-None-2
infer_if-returns-in-None-2 t c =
    no_branch (λ s. TypeOf c.args.names.now c.args.test.now s (ground s (term ty.Bool))) (TypeOf c.args.names.now c.args.yes.now) (TypeOf c.args.names.now c.args.no.now) (ShapeOf c.args.names.now (if_then (tree_of c.args.test.now) (tree_of c.args.yes.now) (tree_of c.args.no.now))) c.args.bindings
    (type_reads _ c.args.names.now c.args.yes.now c.requires) (type_reads _ c.args.names.now c.args.no.now c.requires) (if_is c.args.names.now c.args.test.now c.args.yes.now c.args.no.now (term ty.Bool) (λ s. ap (ground s) term_bool))
    c.in-Some.tested (subst (FindsThat (λ s. TypeOf c.args.names.now c.args.test.now s (ground s (term ty.Bool))) c.args.bindings) c.in-Some.is c.in_ok-tested.ensures)
    (subst (Finds (TypeOf c.args.names.now c.args.yes.now) c.in-Some.tested) c.in-None-2.is c.in_ok-found.ensures)

pub infer_if-returns-in-Some-3 : goal.infer_if-returns-in-Some-3
infer_if-returns-in-Some-3 t c =
    if_found (λ s. TypeOf c.args.names.now c.args.test.now s (ground s (term ty.Bool))) (TypeOf c.args.names.now c.args.yes.now) (TypeOf c.args.names.now c.args.no.now) (ShapeOf c.args.names.now (if_then (tree_of c.args.test.now) (tree_of c.args.yes.now) (tree_of c.args.no.now))) c.args.bindings
    (type_reads _ c.args.names.now c.args.yes.now c.requires) (type_reads _ c.args.names.now c.args.no.now c.requires) (if_is c.args.names.now c.args.test.now c.args.yes.now c.args.no.now (term ty.Bool) (λ s. ap (ground s) term_bool))
    c.in-Some.tested c.in-Some-2.found.bindings c.in-Some-3.bindings (λ s. ground s (term c.in-Some-2.found.ty)) (subst (FindsThat (λ s. TypeOf c.args.names.now c.args.test.now s (ground s (term ty.Bool))) c.args.bindings) c.in-Some.is c.in_ok-tested.ensures)
    (subst (Finds (TypeOf c.args.names.now c.args.yes.now) c.in-Some.tested) c.in-Some-2.is c.in_ok-found.ensures)
    (subst (FindsThat (λ s. TypeOf c.args.names.now c.args.no.now s (ground s (term c.in-Some-2.found.ty))) c.in-Some-2.found.bindings) c.in-Some-3.is c.in_ok-bindings.ensures)

pub infer_if-returns-in-None-3 : goal.infer_if-returns-in-None-3
infer_if-returns-in-None-3 t c =
    no_other (λ s. TypeOf c.args.names.now c.args.test.now s (ground s (term ty.Bool))) (TypeOf c.args.names.now c.args.yes.now) (TypeOf c.args.names.now c.args.no.now) (ShapeOf c.args.names.now (if_then (tree_of c.args.test.now) (tree_of c.args.yes.now) (tree_of c.args.no.now))) c.args.bindings
    (type_reads _ c.args.names.now c.args.yes.now c.requires) (type_reads _ c.args.names.now c.args.no.now c.requires) (if_is c.args.names.now c.args.test.now c.args.yes.now c.args.no.now (term ty.Bool) (λ s. ap (ground s) term_bool))
    c.in-Some.tested c.in-Some-2.found.bindings (λ s. ground s (term c.in-Some-2.found.ty)) (subst (FindsThat (λ s. TypeOf c.args.names.now c.args.test.now s (ground s (term ty.Bool))) c.args.bindings) c.in-Some.is c.in_ok-tested.ensures)
    (subst (Finds (TypeOf c.args.names.now c.args.yes.now) c.in-Some.tested) c.in-Some-2.is c.in_ok-found.ensures)
    (subst (FindsThat (λ s. TypeOf c.args.names.now c.args.no.now s (ground s (term c.in-Some-2.found.ty))) c.in-Some-2.found.bindings) c.in-None-3.is c.in_ok-bindings.ensures)

pub infer_array-typed-requires : goal.infer_array-typed-requires
infer_array-typed-requires t c = (
  omega arith,
  (names_below _ _ c.args.names.now (at_later _ _ _ c.in_ok-element.ensures.more c.loop-item.invariant.more) c.requires, below_more _ _ (term c.in_ok-element.element.ty) c.loop-item.invariant.more c.in_ok-element.ensures.below),
)

pub infer_array-returns-in-None : goal.infer_array-returns-in-None
infer_array-returns-in-None t c =
    no_array c.args.names.now c.args.items.now c.args.bindings c.in_ok-element.element.bindings (λ s. ground s (term c.in_ok-element.element.ty)) c.requires c.in_ok-element.ensures
    (no_item c.args.names.now c.args.items.now c.in_ok-element.element.bindings (term c.in_ok-element.element.ty) (names_below _ _ c.args.names.now c.in_ok-element.ensures.more c.requires) c.in_ok-element.ensures.below
    c.loop-item.asked c.loop-item.item-index c.item-item.result c.loop-item-test.true c.item-item.is c.loop-item.invariant
    (subst (FindsThat (λ s. TypeOf c.args.names.now c.item-item.result s (ground s (term c.in_ok-element.element.ty))) c.loop-item.asked) c.in-None.is c.in_ok-bindings.ensures))

pub infer_array-loop-item-preserved : goal.infer_array-loop-item-preserved
infer_array-loop-item-preserved t c =
    items_grow c.args.names.now c.args.items.now c.in_ok-element.element.bindings (term c.in_ok-element.element.ty) (names_below _ _ c.args.names.now c.in_ok-element.ensures.more c.requires) c.in_ok-element.ensures.below
    c.loop-item.asked c.in-Some.bindings c.loop-item.item-index c.item-item.result c.loop-item-test.true c.item-item.is c.loop-item.invariant
    (subst (FindsThat (λ s. TypeOf c.args.names.now c.item-item.result s (ground s (term c.in_ok-element.element.ty))) c.loop-item.asked) c.in-Some.is c.in_ok-bindings.ensures)

pub infer_array-returns : goal.infer_array-returns
infer_array-returns t c =
    subst (λ u. Infers (ShapeOf c.args.names.now (array (trees_of (map tree_of c.args.items.now)))) c.args.bindings c.loop-item.asked (λ s. ground s u)) (sym c.in_ok-ty.ensures)
    (array_found c.args.names.now c.args.items.now c.args.bindings c.in_ok-element.element.bindings (λ s. ground s (term c.in_ok-element.element.ty)) c.requires c.in_ok-element.ensures c.loop-item.asked
    (items_all c.args.names.now c.args.items.now c.in_ok-element.element.bindings (term c.in_ok-element.element.ty) (names_below _ _ c.args.names.now c.in_ok-element.ensures.more c.requires) c.in_ok-element.ensures.below
    c.loop-item.asked c.loop-item.item-index c.loop-item-test.false c.loop-item.invariant))

pub infer-returns-in-Name : goal.infer-returns-in-Name
infer-returns-in-Name t c =
    subst (λ T. IfOk c.infer_name.result (Finds T c.args.bindings))
    (at_node c.args.names.now c.args.expr.now c.get.result.now (name c.in-Name.label) c.get.ensures (ap shape_of c.in-Name.is ∙ shape_name c.in-Name.label)) c.infer_name.ensures

pub infer_name-returns-in-None : goal.infer_name-returns-in-None
infer_name-returns-in-None t c =
    finds_same (λ s u. IsType u × natives c.args.label.now (type_is u)) (ShapeOf c.args.names.now (name c.args.label.now)) c.args.bindings c.in_ok-native_value-in-None.field-0
    (free_is c.args.names.now c.args.label.now (subst (IsNewest c.args.label.now c.args.names.now) c.in-None.is c.newest.ensures)) c.in_ok-native_value-in-None.ensures

pub infer_name-infer-requires : goal.infer_name-infer-requires
infer_name-infer-requires t c = (
  omega arith,
  prefix_below _ c.args.names.now c.in-Some.place c.index-names-place.result (found_place c.args.label.now c.args.names.now c.newest.result c.in-Some.place c.in-Some.is c.newest.ensures).0 c.index-names-place.is c.requires,
)

pub infer_name-returns-in_ok-variable-in-Param : goal.infer_name-returns-in_ok-variable-in-Param
infer_name-returns-in_ok-variable-in-Param t c =
    instead (λ s u. IsType u × (u ≡ s.type_of c.in-Param.number)) (ShapeOf c.args.names.now (name c.args.label.now)) c.args.bindings c.in_ok-variable-in-Param.field-0.bindings (λ s. ground s (term c.in_ok-variable-in-Param.field-0.ty))
    (param_is c.args.names.now c.args.label.now c.in-Some.place c.index-names-place.result (found_place c.args.label.now c.args.names.now c.newest.result c.in-Some.place c.in-Some.is c.newest.ensures).0 c.index-names-place.is
    ((found_place c.args.label.now c.args.names.now c.newest.result c.in-Some.place c.in-Some.is c.newest.ensures).1 c.index-names-place.result c.index-names-place.is)
    (found_place c.args.label.now c.args.names.now c.newest.result c.in-Some.place c.in-Some.is c.newest.ensures).2
    c.in-Param.number c.in-Param.is) c.in_ok-variable-in-Param.ensures

pub infer_name-returns-in-Assigned : goal.infer_name-returns-in-Assigned
infer_name-returns-in-Assigned t c =
    finds_instead (TypeOf (take c.in-Some.place c.args.names.now) c.in-Assigned.value.now) (ShapeOf c.args.names.now (name c.args.label.now)) c.args.bindings c.infer.result
    (value_is c.args.names.now c.args.label.now c.in-Some.place c.index-names-place.result (found_place c.args.label.now c.args.names.now c.newest.result c.in-Some.place c.in-Some.is c.newest.ensures).0 c.index-names-place.is
    ((found_place c.args.label.now c.args.names.now c.newest.result c.in-Some.place c.in-Some.is c.newest.ensures).1 c.index-names-place.result c.index-names-place.is)
    (found_place c.args.label.now c.args.names.now c.newest.result c.in-Some.place c.in-Some.is c.newest.ensures).2
    c.in-Assigned.value c.in-Assigned.is) c.infer.ensures

pub infer_name-returns-in-Imported : goal.infer_name-returns-in-Imported
infer_name-returns-in-Imported t c =
    no_package c.args.names.now c.args.label.now c.in-Some.place c.index-names-place.result (found_place c.args.label.now c.args.names.now c.newest.result c.in-Some.place c.in-Some.is c.newest.ensures).0 c.index-names-place.is
    ((found_place c.args.label.now c.args.names.now c.newest.result c.in-Some.place c.in-Some.is c.newest.ensures).1 c.index-names-place.result c.index-names-place.is)
    (found_place c.args.label.now c.args.names.now c.newest.result c.in-Some.place c.in-Some.is c.newest.ensures).2
    c.in-Imported.field-0 c.in-Imported.is c.args.bindings

pub infer-returns-in-Chain : goal.infer-returns-in-Chain
infer-returns-in-Chain t c =
    subst (λ T. IfOk c.infer_chain.result (Finds T c.args.bindings))
    (ap (λ ls. ShapeOf c.args.names.now (chain (tree_of c.in-Chain.first) (links_of (map link ls)))) c.as_slice-in-Chain.ensures
    ∙ at_node c.args.names.now c.args.expr.now c.get.result.now (chain (tree_of c.in-Chain.first) (links_of (map link c.in-Chain.rest))) c.get.ensures (ap shape_of c.in-Chain.is ∙ shape_chain c.in-Chain.first c.in-Chain.rest)) c.infer_chain.ensures

pub infer_chain-loop-next-init : goal.infer_chain-loop-next-init
infer_chain-loop-next-init t c =
    chain_start c.args.names.now c.args.first.now c.args.rest.now c.args.bindings c.in-Some.found.bindings (λ s. ground s (term c.in-Some.found.ty)) (subst (Finds (TypeOf c.args.names.now c.args.first.now) c.args.bindings) c.in-Some.is c.in_ok-found.ensures)

pub infer_chain-returns-in-None-2 : goal.infer_chain-returns-in-None-2
infer_chain-returns-in-None-2 t c =
    no_link c.args.names.now c.args.first.now c.args.rest.now c.args.bindings c.requires c.loop-next.left.bindings (λ s. ground s (term c.loop-next.left.ty)) c.loop-next.next-index c.next-item.result c.loop-next-test.true c.next-item.is c.loop-next.invariant
    (subst (Finds (λ s u. LinkOf c.args.names.now c.next-item.result s (ground s (term c.loop-next.left.ty)) u) c.loop-next.left.bindings) c.in-None-2.is c.in_ok-found-2.ensures)

pub infer_chain-loop-next-preserved : goal.infer_chain-loop-next-preserved
infer_chain-loop-next-preserved t c =
    chain_grow c.args.names.now c.args.first.now c.args.rest.now c.args.bindings c.requires c.loop-next.left.bindings (λ s. ground s (term c.loop-next.left.ty)) c.loop-next.next-index c.next-item.result c.loop-next-test.true c.next-item.is c.loop-next.invariant
    c.in-Some-2.found.bindings (λ s. ground s (term c.in-Some-2.found.ty)) (subst (Finds (λ s u. LinkOf c.args.names.now c.next-item.result s (ground s (term c.loop-next.left.ty)) u) c.loop-next.left.bindings) c.in-Some-2.is c.in_ok-found-2.ensures)

pub infer_chain-returns : goal.infer_chain-returns
infer_chain-returns t c =
    chain_found c.args.names.now c.args.first.now c.args.rest.now c.args.bindings c.requires c.loop-next.left.bindings (λ s. ground s (term c.loop-next.left.ty)) c.loop-next.next-index c.loop-next-test.false c.loop-next.invariant

pub infer_link-returns-in-Some : goal.infer_link-returns-in-Some
infer_link-returns-in-Some t c =
    link_found c.args.names.now c.args.next.now c.args.left.bindings c.in-Some.right.bindings c.in_ok-infixed-in-Some.field-0.bindings (term c.args.left.ty) (λ s. ground s (term c.in-Some.right.ty)) (λ s. ground s (term c.in_ok-infixed-in-Some.field-0.ty)) c.requires.left
    (subst (Finds (TypeOf c.args.names.now c.args.next.now.right) c.args.left.bindings) c.in-Some.is c.in_ok-right.ensures) c.in_ok-infixed-in-Some.ensures

pub infer-returns-in-Call : goal.infer-returns-in-Call
infer-returns-in-Call t c =
    subst (λ T. IfOk c.infer_call.result (Finds T c.args.bindings))
    (ap (λ ps. ShapeOf c.args.names.now (call (tree_of c.in-Call.callee) (props_of (map prop ps)))) c.as_slice-in-Call.ensures
    ∙ at_node c.args.names.now c.args.expr.now c.get.result.now (call (tree_of c.in-Call.callee) (props_of (map prop c.in-Call.args))) c.get.ensures (ap shape_of c.in-Call.is ∙ shape_call c.in-Call.callee c.in-Call.args))
    (finds_instead (CallOf c.args.names.now c.in-Call.callee c.as_slice-in-Call.result.now no_pipe) (ShapeOf c.args.names.now (call (tree_of c.in-Call.callee) (props_of (map prop c.as_slice-in-Call.result.now)))) c.args.bindings c.infer_call.result
    (plain_call c.args.names.now c.in-Call.callee c.as_slice-in-Call.result.now) c.infer_call.ensures)

pub infer-returns-in-Pipe : goal.infer-returns-in-Pipe
infer-returns-in-Pipe t c =
    subst (λ T. IfOk c.infer_pipe.result (Finds T c.args.bindings))
    (ap (λ es. ShapeOf c.args.names.now (pipe (tree_of c.in-Pipe.first) (trees_of (map tree_of es)))) c.as_slice-in-Pipe.ensures
    ∙ at_node c.args.names.now c.args.expr.now c.get.result.now (pipe (tree_of c.in-Pipe.first) (trees_of (map tree_of c.in-Pipe.calls))) c.get.ensures (ap shape_of c.in-Pipe.is ∙ shape_pipe c.in-Pipe.first c.in-Pipe.calls)) c.infer_pipe.ensures

pub infer_pipe-loop-call-init : goal.infer_pipe-loop-call-init
infer_pipe-loop-call-init t c =
    pipes_start c.args.names.now c.args.first.now c.args.calls.now c.args.bindings c.in-Some.found.bindings (λ s. ground s (term c.in-Some.found.ty)) (subst (Finds (TypeOf c.args.names.now c.args.first.now) c.args.bindings) c.in-Some.is c.in_ok-found.ensures)

pub infer_pipe-returns-in-None : goal.infer_pipe-returns-in-None
infer_pipe-returns-in-None t c =
    no_input c.args.names.now c.args.first.now c.args.calls.now c.args.bindings (subst (Finds (TypeOf c.args.names.now c.args.first.now) c.args.bindings) c.in-None.is c.in_ok-found.ensures)

pub infer_pipe-returns-in-None-2 : goal.infer_pipe-returns-in-None-2
infer_pipe-returns-in-None-2 t c =
    no_piped c.args.names.now c.args.first.now c.args.calls.now c.args.bindings c.requires c.loop-call.piped.bindings (λ s. ground s (term c.loop-call.piped.ty)) c.loop-call.call-index c.call-item.result c.loop-call-test.true c.call-item.is c.loop-call.invariant
    (subst (Finds (λ s u. PipedOf c.args.names.now c.call-item.result s (ground s (term c.loop-call.piped.ty)) u) c.loop-call.piped.bindings) c.in-None-2.is c.in_ok-found-2.ensures)

pub infer_pipe-loop-call-preserved : goal.infer_pipe-loop-call-preserved
infer_pipe-loop-call-preserved t c =
    pipes_grow c.args.names.now c.args.first.now c.args.calls.now c.args.bindings c.requires c.loop-call.piped.bindings (λ s. ground s (term c.loop-call.piped.ty)) c.loop-call.call-index c.call-item.result c.loop-call-test.true c.call-item.is c.loop-call.invariant
    c.in-Some-2.found.bindings (λ s. ground s (term c.in-Some-2.found.ty)) (subst (Finds (λ s u. PipedOf c.args.names.now c.call-item.result s (ground s (term c.loop-call.piped.ty)) u) c.loop-call.piped.bindings) c.in-Some-2.is c.in_ok-found-2.ensures)

pub infer_pipe-returns : goal.infer_pipe-returns
infer_pipe-returns t c =
    pipes_found c.args.names.now c.args.first.now c.args.calls.now c.args.bindings c.requires c.loop-call.piped.bindings (λ s. ground s (term c.loop-call.piped.ty)) c.loop-call.call-index c.loop-call-test.false c.loop-call.invariant

pub infer_piped-infer_call-requires : goal.infer_piped-infer_call-requires
infer_piped-infer_call-requires t c = (omega arith, (c.requires.names, λ s q agree. ap g_is (c.requires.piped s q agree)))

pub infer_piped-returns-in-Call : goal.infer_piped-returns-in-Call
infer_piped-returns-in-Call t c =
    finds_instead (CallOf c.args.names.now c.in-Call.callee c.as_slice.result.now (pipe_of (option_map term (Some c.args.piped.ty)))) (λ s u. PipedOf c.args.names.now c.args.call.now s (ground s (term c.args.piped.ty)) u) c.args.piped.bindings c.infer_call.result
    (piped_call c.args.names.now c.args.call.now c.in-Call.callee c.as_slice.result.now c.args.piped.ty
    (at_shape c.args.call.now c.get.result.now (call (tree_of c.in-Call.callee) (props_of (map prop c.in-Call.args))) c.get.ensures (ap shape_of c.in-Call.is ∙ shape_call c.in-Call.callee c.in-Call.args)
    ∙ ap (λ ps. tree c.args.call.now.place (call (tree_of c.in-Call.callee) (props_of (map prop ps)))) (sym c.as_slice.ensures))) c.infer_call.ensures

pub infer_piped-returns-in_default : goal.infer_piped-returns-in_default
infer_piped-returns-in_default t c = λ s h within u k. no_call c.args.call.now c.get.result.now (scope (env_under s c.args.names.now)) (ground s (term c.args.piped.ty)) u c.get.ensures c.in_default.not-Call k

pub infer_call-returns-then-not-once : goal.infer_call-returns-then-not-once
infer_call-returns-then-not-once t c = not_once c.args.names.now c.args.of.now c.args.args.now (pipe_of (option_map term c.args.input)) c.args.bindings (once_is c.args.args.now c.once.result c.once.ensures ∙ c.if-not-once.true)

pub infer_call-call_native-requires : goal.infer_call-call_native-requires
infer_call-call_native-requires t c =
    let k = subst (IsCallee c.args.names.now c.args.of.now) c.in-Native.is c.in_ok-id.ensures in
    (omega arith, (c.requires.names, (c.requires.input, (once_is c.args.args.now c.once.result c.once.ensures ∙ c.if-not-once.false, (k.0, k.1)))))

pub infer_call-returns-in-Native : goal.infer_call-returns-in-Native
infer_call-returns-in-Native t c =
    let k = subst (IsCallee c.args.names.now c.args.of.now) c.in-Native.is c.in_ok-id.ensures in
    finds_instead (NativeCallOf k.0 c.args.names.now c.args.args.now (pipe_of (option_map term c.args.input))) (CallOf c.args.names.now c.args.of.now c.args.args.now (pipe_of (option_map term c.args.input))) c.args.bindings c.call_native.result
    (λ s u. as_native c.args.names.now c.args.of.now c.args.args.now (pipe_of (option_map term c.args.input)) (once_is c.args.args.now c.once.result c.once.ensures ∙ c.if-not-once.false) s u k.0 (k.2 s)) (c.call_native.ensures k.0 k.1)

pub infer_call-call_value-requires : goal.infer_call-call_value-requires
infer_call-call_value-requires t c = (omega arith, (c.requires.names, (c.requires.input, once_is c.args.args.now c.once.result c.once.ensures ∙ c.if-not-once.false)))

pub infer_call-returns-in-Value : goal.infer_call-returns-in-Value
infer_call-returns-in-Value t c =
    let k = subst (IsCallee c.args.names.now c.args.of.now) c.in-Value.is c.in_ok-id.ensures in
    finds_instead (ValueCallOf c.args.names.now c.args.of.now c.args.args.now (pipe_of (option_map term c.args.input))) (CallOf c.args.names.now c.args.of.now c.args.args.now (pipe_of (option_map term c.args.input))) c.args.bindings c.call_value.result
    (λ s u. as_value c.args.names.now c.args.of.now c.args.args.now (pipe_of (option_map term c.args.input)) (once_is c.args.args.now c.once.result c.once.ensures ∙ c.if-not-once.false) s u (k s)) c.call_value.ensures

pub call_value-returns-in-None : goal.call_value-returns-in-None
call_value-returns-in-None t c =
    value_none c.args.names.now c.args.args.now (pipe_of (option_map term c.args.input)) c.args.bindings c.requires.names c.requires.input c.args.of.now (subst (Finds (TypeOf c.args.names.now c.args.of.now) c.args.bindings) c.in-None.is c.in_ok-found.ensures)

pub call_value-infer_args-requires : goal.call_value-infer_args-requires
call_value-infer_args-requires t c = (
  omega arith,
  (
    names_later (TypeOf c.args.names.now c.args.of.now) c.args.bindings c.in-Some.found.bindings (λ s. ground s (term c.in-Some.found.ty)) c.args.names.now (subst (Finds (TypeOf c.args.names.now c.args.of.now) c.args.bindings) c.in-Some.is c.in_ok-found.ensures) c.requires.names,
    (c.requires.once, (None, tt)),
  ),
)

pub call_value-returns-in-None-2 : goal.call_value-returns-in-None-2
call_value-returns-in-None-2 t c =
    value_args_none c.args.names.now c.args.args.now (pipe_of (option_map term c.args.input)) c.args.bindings c.requires.names c.requires.input c.args.of.now c.in-Some.found.bindings (λ s. ground s (term c.in-Some.found.ty))
    (subst (Finds (TypeOf c.args.names.now c.args.of.now) c.args.bindings) c.in-Some.is c.in_ok-found.ensures) (subst (FindsArgs None c.args.names.now c.args.args.now c.in-Some.found.bindings) c.in-None-2.is (c.in_ok-given.ensures None tt))

pub call_value-result_of-requires-clause-of : goal.call_value-result_of-requires-clause-of
call_value-result_of-requires-clause-of t c =
    term_below (TypeOf c.args.names.now c.args.of.now) c.args.bindings c.in-Some.found.bindings c.in-Some-2.given.bindings (term c.in-Some.found.ty) (ArgsOf None c.args.names.now c.args.args.now) (λ s. ground_labels s (labels_in c.in-Some-2.given.entries))
    (subst (Finds (TypeOf c.args.names.now c.args.of.now) c.args.bindings) c.in-Some.is c.in_ok-found.ensures)
    (subst (FindsArgs None c.args.names.now c.args.args.now c.in-Some.found.bindings) c.in-Some-2.is (c.in_ok-given.ensures None tt)).found

pub call_value-result_of-requires-clause-given : goal.call_value-result_of-requires-clause-given
call_value-result_of-requires-clause-given t c =
    given_below (TypeOf c.args.names.now c.args.of.now) c.args.bindings c.in-Some.found.bindings c.in-Some-2.given.bindings (λ s. ground s (term c.in-Some.found.ty)) (ArgsOf None c.args.names.now c.args.args.now) c.in-Some-2.given.entries (pipe_of (option_map term c.args.input))
    (subst (Finds (TypeOf c.args.names.now c.args.of.now) c.args.bindings) c.in-Some.is c.in_ok-found.ensures)
    (subst (FindsArgs None c.args.names.now c.args.args.now c.in-Some.found.bindings) c.in-Some-2.is (c.in_ok-given.ensures None tt)).found c.requires.input

pub call_value-returns : goal.call_value-returns
call_value-returns t c =
    value_found c.args.names.now c.args.args.now (pipe_of (option_map term c.args.input)) c.args.bindings c.requires.names c.requires.input c.args.of.now c.in-Some.found.bindings c.in-Some-2.given.bindings c.in_ok-result_of.field-0.bindings (λ s. ground s (term c.in-Some.found.ty))
    (λ s. ground_labels s (labels_in c.in-Some-2.given.entries)) (λ s. ground s (term c.in_ok-result_of.field-0.ty))
    (subst (Finds (TypeOf c.args.names.now c.args.of.now) c.args.bindings) c.in-Some.is c.in_ok-found.ensures)
    (subst (FindsArgs None c.args.names.now c.args.args.now c.in-Some.found.bindings) c.in-Some-2.is (c.in_ok-given.ensures None tt)).found c.in_ok-result_of.ensures

pub call_native-returns-in-None : goal.call_native-returns-in-None
call_native-returns-in-None t c b is =
    native_wordless c.args.names.now c.args.args.now (pipe_of (option_map term c.args.input)) c.args.bindings c.requires.names c.requires.input b (sym (c.in_ok-words.ensures b is) ∙ c.in-None.is)

pub call_native-returns-in-None-2 : goal.call_native-returns-in-None-2
call_native-returns-in-None-2 t c b is =
    native_no_line c.args.names.now c.args.args.now (pipe_of (option_map term c.args.input)) c.args.bindings c.requires.names c.requires.input b c.in-Some.words (sym (c.in_ok-words.ensures b is) ∙ c.in-Some.is)
    (subst (FindsLine (λ s L. IsTypedLine b c.in-Some.words L) c.args.bindings) c.in-None-2.is (c.in_ok-lined.ensures b is))

pub call_native-infer_args-requires : goal.call_native-infer_args-requires
call_native-infer_args-requires t c = (
  omega arith,
  (names_below _ _ c.args.names.now (subst (FindsLine (λ s L. IsTypedLine c.requires.known.0 c.in-Some.words L) c.args.bindings) c.in-Some-2.is (c.in_ok-lined.ensures c.requires.known.0 c.requires.known.1)).more c.requires.names, (c.requires.once, (Some c.requires.known.0, c.requires.known.1))),
)

pub call_native-returns-in-None-3 : goal.call_native-returns-in-None-3
call_native-returns-in-None-3 t c b is =
    native_args_none c.args.names.now c.args.args.now (pipe_of (option_map term c.args.input)) c.args.bindings c.requires.names c.requires.input b c.in-Some.words (sym (c.in_ok-words.ensures b is) ∙ c.in-Some.is) c.in-Some-2.lined.bindings (λ s. line_under s c.in-Some-2.lined.line)
    (subst (FindsLine (λ s L. IsTypedLine b c.in-Some.words L) c.args.bindings) c.in-Some-2.is (c.in_ok-lined.ensures b is)) (subst (FindsArgs (Some b) c.args.names.now c.args.args.now c.in-Some-2.lined.bindings) c.in-None-3.is (c.in_ok-given.ensures (Some b) is))

pub call_native-called-requires-clause-once : goal.call_native-called-requires-clause-once
call_native-called-requires-clause-once t c = ap (λ es. differ (entry_names es)) c.as_slice.ensures ∙ (subst (FindsArgs (Some c.requires.known.0) c.args.names.now c.args.args.now c.in-Some-2.lined.bindings) c.in-Some-3.is (c.in_ok-given.ensures (Some c.requires.known.0) c.requires.known.1)).once

pub call_native-called-requires-clause-apart : goal.call_native-called-requires-clause-apart
call_native-called-requires-clause-apart t c =
    lines_apart c.requires.known.0 c.in-Some.words c.args.bindings c.in-Some-2.lined.bindings c.in-Some-3.given.bindings c.in-Some-2.lined.line (ArgsOf (Some c.requires.known.0) c.args.names.now c.args.args.now) (λ s. ground_labels s (labels_in c.in-Some-3.given.entries))
    (subst (FindsLine (λ s L. IsTypedLine c.requires.known.0 c.in-Some.words L) c.args.bindings) c.in-Some-2.is (c.in_ok-lined.ensures c.requires.known.0 c.requires.known.1))
    (subst (FindsArgs (Some c.requires.known.0) c.args.names.now c.args.args.now c.in-Some-2.lined.bindings) c.in-Some-3.is (c.in_ok-given.ensures (Some c.requires.known.0) c.requires.known.1)).found

pub call_native-called-requires-clause-line : goal.call_native-called-requires-clause-line
call_native-called-requires-clause-line t c =
    line_below (λ s L. IsTypedLine c.requires.known.0 c.in-Some.words L) c.args.bindings c.in-Some-2.lined.bindings c.in-Some-3.given.bindings c.in-Some-2.lined.line (ArgsOf (Some c.requires.known.0) c.args.names.now c.args.args.now) (λ s. ground_labels s (labels_in c.in-Some-3.given.entries))
    (subst (FindsLine (λ s L. IsTypedLine c.requires.known.0 c.in-Some.words L) c.args.bindings) c.in-Some-2.is (c.in_ok-lined.ensures c.requires.known.0 c.requires.known.1))
    (subst (FindsArgs (Some c.requires.known.0) c.args.names.now c.args.args.now c.in-Some-2.lined.bindings) c.in-Some-3.is (c.in_ok-given.ensures (Some c.requires.known.0) c.requires.known.1)).found

pub call_native-called-requires-clause-optional : goal.call_native-called-requires-clause-optional
call_native-called-requires-clause-optional t c =
    optional_below (λ s L. IsTypedLine c.requires.known.0 c.in-Some.words L) c.args.bindings c.in-Some-2.lined.bindings c.in-Some-3.given.bindings c.in-Some-2.lined.line (ArgsOf (Some c.requires.known.0) c.args.names.now c.args.args.now) (λ s. ground_labels s (labels_in c.in-Some-3.given.entries))
    (subst (FindsLine (λ s L. IsTypedLine c.requires.known.0 c.in-Some.words L) c.args.bindings) c.in-Some-2.is (c.in_ok-lined.ensures c.requires.known.0 c.requires.known.1))
    (subst (FindsArgs (Some c.requires.known.0) c.args.names.now c.args.args.now c.in-Some-2.lined.bindings) c.in-Some-3.is (c.in_ok-given.ensures (Some c.requires.known.0) c.requires.known.1)).found

pub call_native-called-requires-clause-given : goal.call_native-called-requires-clause-given
call_native-called-requires-clause-given t c =
    subst (λ es. AreBelow (next_of c.in-Some-3.given.bindings) (labels_in es) (pipe_of (option_map term c.args.input))) (sym c.as_slice.ensures)
    (given_below (λ s L. IsTypedLine c.requires.known.0 c.in-Some.words L) c.args.bindings c.in-Some-2.lined.bindings c.in-Some-3.given.bindings (λ s. line_under s c.in-Some-2.lined.line) (ArgsOf (Some c.requires.known.0) c.args.names.now c.args.args.now) c.in-Some-3.given.entries (pipe_of (option_map term c.args.input))
    (subst (FindsLine (λ s L. IsTypedLine c.requires.known.0 c.in-Some.words L) c.args.bindings) c.in-Some-2.is (c.in_ok-lined.ensures c.requires.known.0 c.requires.known.1))
    (subst (FindsArgs (Some c.requires.known.0) c.args.names.now c.args.args.now c.in-Some-2.lined.bindings) c.in-Some-3.is (c.in_ok-given.ensures (Some c.requires.known.0) c.requires.known.1)).found c.requires.input)

pub call_native-returns : goal.call_native-returns
call_native-returns t c b is =
    native_found c.args.names.now c.args.args.now (pipe_of (option_map term c.args.input)) c.args.bindings c.requires.names c.requires.input b c.in-Some.words (sym (c.in_ok-words.ensures b is) ∙ c.in-Some.is) c.in-Some-2.lined.bindings c.in-Some-3.given.bindings (λ s. line_under s c.in-Some-2.lined.line)
    (λ s. ground_labels s (labels_in c.in-Some-3.given.entries)) c.in_ok-called.field-0
    (subst (FindsLine (λ s L. IsTypedLine b c.in-Some.words L) c.args.bindings) c.in-Some-2.is (c.in_ok-lined.ensures b is))
    (subst (FindsArgs (Some b) c.args.names.now c.args.args.now c.in-Some-2.lined.bindings) c.in-Some-3.is (c.in_ok-given.ensures (Some b) is)).found
    (subst (λ es. Finds (λ s u. IsCalled (ground_pipe s (pipe_of (option_map term c.args.input))) (ground_labels s (labels_in es)) (line_under s c.in-Some-2.lined.line) u) c.in-Some-3.given.bindings c.in_ok-called.field-0) c.as_slice.ensures c.in_ok-called.ensures)

pub infer_args-loop-arg-init : goal.infer_args-loop-arg-init
infer_args-loop-arg-init t c b is = args_start b c.args.names.now c.args.args.now c.args.bindings c.empty-entries.result c.empty-entries.ensures

pub infer_args-returns-in-None : goal.infer_args-returns-in-None
infer_args-returns-in-None t c b is =
    no_arg b c.args.names.now c.args.args.now c.loop-arg.arg-index c.arg-item.result c.args.bindings c.loop-arg.asked (λ s. ground_labels s (labels_in c.loop-arg.entries)) c.loop-arg-test.true c.arg-item.is c.requires.names (c.loop-arg.invariant b is).found
    (subst (FindsArg (ArgOf b c.args.names.now c.arg-item.result) c.loop-arg.asked) c.in-None.is (c.in_ok-argument.ensures b is))

pub infer_args-infer_arg-requires : goal.infer_args-infer_arg-requires
infer_args-infer_arg-requires t c = (omega arith, (names_below _ _ c.args.names.now (c.loop-arg.invariant c.requires.known.0 c.requires.known.1).found.more c.requires.names, c.requires.known))

pub infer_args-loop-arg-preserved : goal.infer_args-loop-arg-preserved
infer_args-loop-arg-preserved t c b is =
    subst (λ n. AreArgs b c.args.names.now (take (c.loop-arg.arg-index + 1) c.args.args.now) c.args.bindings n c.in_ok-given.given.entries) (sym c.in_ok-given.ensures.bindings)
    (args_more b c.args.names.now c.args.args.now c.loop-arg.arg-index c.arg-item.result c.args.bindings c.loop-arg.asked c.in-Some.argument.bindings c.loop-arg.entries c.in_ok-given.given.entries c.in-Some.argument.ty c.loop-arg-test.true c.arg-item.is
    (new_arg c.args.args.now c.loop-arg.arg-index c.arg-item.result c.requires.once c.loop-arg-test.true c.arg-item.is) c.requires.names (c.loop-arg.invariant b is)
    (subst (FindsArg (ArgOf b c.args.names.now c.arg-item.result) c.loop-arg.asked) c.in-Some.is (c.in_ok-argument.ensures b is)) c.in_ok-given.ensures.entries)

pub infer_args-returns : goal.infer_args-returns
infer_args-returns t c b is = args_all b c.args.names.now c.args.args.now c.loop-arg.arg-index c.args.bindings c.loop-arg.asked c.loop-arg.entries c.loop-arg-test.false (c.loop-arg.invariant b is)

pub infer_arg-form_at-requires : goal.infer_arg-form_at-requires
infer_arg-form_at-requires t c = c.requires.known

pub infer_arg-returns-in_ok-said-in-Some : goal.infer_arg-returns-in_ok-said-in-Some
infer_arg-returns-in_ok-said-in-Some t c b is =
    said_arg b c.args.names.now c.args.arg.now c.args.bindings c.in-Some.form c.in_ok-said-in-Some.field-0 (sym (c.form_at.ensures b is) ∙ c.in-Some.is) c.in_ok-said-in-Some.ensures

pub infer_arg-returns-in-Some-2 : goal.infer_arg-returns-in-Some-2
infer_arg-returns-in-Some-2 t c b is =
    typed_found b c.args.names.now c.args.arg.now c.args.bindings c.in-Some-2.found c.argument_of.result c.argument_of.ensures.bindings c.argument_of.ensures.ty (sym (c.form_at.ensures b is) ∙ c.in-None.is)
    (subst (Finds (TypeOf c.args.names.now c.args.arg.now.value) c.args.bindings) c.in-Some-2.is c.in_ok-found-in-None.ensures)

pub infer_arg-returns-in-None-2 : goal.infer_arg-returns-in-None-2
infer_arg-returns-in-None-2 t c b is =
    no_typed_arg b c.args.names.now c.args.arg.now c.args.bindings (sym (c.form_at.ensures b is) ∙ c.in-None.is)
    (subst (Finds (TypeOf c.args.names.now c.args.arg.now.value) c.args.bindings) c.in-None-2.is c.in_ok-found-in-None.ensures)

-- function literals

pub infer-returns-in-Fun : goal.infer-returns-in-Fun
infer-returns-in-Fun t c =
    subst (λ T. IfOk c.infer_function.result (Finds T c.args.bindings))
    (ap (λ ps. ShapeOf c.args.names.now (fun (params_of (map param ps)) (body c.in-Fun.body).lets (body c.in-Fun.body).result)) c.as_slice-in-Fun.ensures
    ∙ at_node c.args.names.now c.args.expr.now c.get.result.now (fun (params_of (map param c.in-Fun.params)) (body c.in-Fun.body).lets (body c.in-Fun.body).result) c.get.ensures (ap shape_of c.in-Fun.is ∙ shape_fun c.in-Fun.params c.in-Fun.body)) c.infer_function.ensures

pub infer_function-returns-then-not-are_declared : goal.infer_function-returns-then-not-are_declared
infer_function-returns-then-not-are_declared t c =
    undeclared c.args.names.now c.args.params.now (body c.args.block.now).lets (body c.args.block.now).result c.args.bindings
    (block_undeclared c.args.params.now c.args.block.now c.as_slice.result.now c.as_slice.ensures c.are_declared.result c.are_declared.ensures c.if-not-are_declared.true)

pub infer_function-infer_param-requires : goal.infer_function-infer_param-requires
infer_function-infer_param-requires t c = (omega arith, (names_below _ _ c.args.names.now c.loop-next.invariant.more c.requires, c.loop-next.invariant.below))

pub infer_function-returns-in-None : goal.infer_function-returns-in-None
infer_function-returns-in-None t c =
    no_params c.args.names.now c.args.params.now (body c.args.block.now).lets (body c.args.block.now).result c.args.bindings (block_declared c.args.params.now c.args.block.now c.as_slice.result.now c.as_slice.ensures c.are_declared.result c.are_declared.ensures c.if-not-are_declared.false)
    (no_param c.args.names.now c.args.params.now c.args.bindings c.requires c.loop-next.scoped.bindings c.loop-next.scoped.block c.loop-next.next-index c.next-item.result c.loop-next-test.true c.next-item.is c.loop-next.invariant
    (subst (FindsBlock (ParamOf c.args.names.now c.next-item.result c.loop-next.scoped.block) c.loop-next.scoped.bindings) c.in-None.is c.in_ok-scoped.ensures))

pub infer_function-loop-next-preserved : goal.infer_function-loop-next-preserved
infer_function-loop-next-preserved t c =
    params_grow_on c.args.names.now c.args.params.now c.args.bindings c.requires c.loop-next.scoped.bindings c.loop-next.scoped.block c.loop-next.next-index c.next-item.result c.loop-next-test.true c.next-item.is c.loop-next.invariant c.in-Some.scoped.bindings c.in-Some.scoped.block
    (subst (FindsBlock (ParamOf c.args.names.now c.next-item.result c.loop-next.scoped.block) c.loop-next.scoped.bindings) c.in-Some.is c.in_ok-scoped.ensures)

pub infer_function-infer_block-requires : goal.infer_function-infer_block-requires
infer_function-infer_block-requires t c = (omega arith, λ s q agree. ap (λ b. b.0) (c.loop-next.invariant.below s q agree))

pub infer_param-infer_default-requires : goal.infer_param-infer_default-requires
infer_param-infer_default-requires t c = (omega arith, (names_below _ _ c.args.names.now c.in_ok-fresh.ensures.more c.requires.names, c.in_ok-fresh.ensures.below))

pub infer_param-returns-in-Some : goal.infer_param-returns-in-Some
infer_param-returns-in-Some t c =
    param_found c.args.names.now c.args.next.now c.args.scoped.block c.args.scoped.bindings c.requires.names c.requires.block c.in_ok-fresh.fresh.bindings c.in-Some.bindings c.in_ok-fresh.fresh.number c.in_ok-block-in-Some.block c.in_ok-fresh.ensures
    (subst (FindsThat (λ s. DefaultOf c.args.names.now c.args.next.now.default s (s.type_of c.in_ok-fresh.fresh.number)) c.in_ok-fresh.fresh.bindings) c.in-Some.is c.in_ok-bindings.ensures) c.in_ok-block-in-Some.ensures

pub infer_param-returns : goal.infer_param-returns
infer_param-returns t c =
    no_default c.args.names.now c.args.next.now c.args.scoped.block c.args.scoped.bindings c.requires.names c.requires.block c.in_ok-fresh.fresh.bindings c.in_ok-fresh.fresh.number c.in_ok-fresh.ensures
    (subst (FindsThat (λ s. DefaultOf c.args.names.now c.args.next.now.default s (s.type_of c.in_ok-fresh.fresh.number)) c.in_ok-fresh.fresh.bindings) c.in-None.is c.in_ok-bindings.ensures)

pub infer_default-returns-in-Required : goal.infer_default-returns-in-Required
infer_default-returns-in-Required t c =
    no_default_needed c.args.names.now c.args.default.now c.args.number c.args.bindings (required_default c.args.names.now c.args.default.now c.args.number (is_required c.args.default.now c.in-Required.is))

pub infer_default-returns-in-Pipe : goal.infer_default-returns-in-Pipe
infer_default-returns-in-Pipe t c =
    no_default_needed c.args.names.now c.args.default.now c.args.number c.args.bindings (piped_default c.args.names.now c.args.default.now c.args.number (is_piped c.args.default.now c.in-Pipe.is))

pub infer_default-returns-in_ok-equal-in-Some : goal.infer_default-returns-in_ok-equal-in-Some
infer_default-returns-in_ok-equal-in-Some t c =
    default_found c.args.names.now c.args.default.now c.in-Value.value c.args.number (ap default_of c.in-Value.is ∙ default_value c.in-Value.value) c.args.bindings c.in-Some.found.bindings c.in_ok-equal-in-Some.field-0 (λ s. ground s (term c.in-Some.found.ty)) (term (ty.Var c.args.number))
    (λ s. ap (ground s) (term_variable c.args.number)) c.requires.number (subst (Finds (TypeOf c.args.names.now c.in-Value.value) c.args.bindings) c.in-Some.is c.in_ok-found.ensures) c.in_ok-equal-in-Some.ensures

pub infer_default-returns-in-None : goal.infer_default-returns-in-None
infer_default-returns-in-None t c =
    no_default_value c.args.names.now c.args.default.now c.in-Value.value c.args.number (ap default_of c.in-Value.is ∙ default_value c.in-Value.value) c.args.bindings (subst (Finds (TypeOf c.args.names.now c.in-Value.value) c.args.bindings) c.in-None.is c.in_ok-found.ensures)

pub infer_block-returns-in-None : goal.infer_block-returns-in-None
infer_block-returns-in-None t c =
    block_stops c.args.block.now c.as_slice-next-items.result.now (out-Body c.args.block.now).result c.as_slice-next-items.ensures refl c.args.names c.args.bindings c.requires c.loop-next.asked c.loop-next.inner c.loop-next.next-index c.next-item.result c.loop-next-test.true c.next-item.is c.loop-next.invariant
    (subst (λ ms. HasNone (TypeOf ms c.next-item.result.value) c.loop-next.asked) c.as_slice.ensures (subst (Finds (TypeOf c.as_slice.result.now c.next-item.result.value) c.loop-next.asked) c.in-None.is c.in_ok-found.ensures))

pub infer_block-loop-next-preserved : goal.infer_block-loop-next-preserved
infer_block-loop-next-preserved t c = (
  lets_grow c.args.names c.as_slice-next-items.result.now c.args.bindings c.requires c.loop-next.asked c.loop-next.inner c.loop-next.next-index c.next-item.result c.loop-next-test.true c.next-item.is c.loop-next.invariant.0 c.loop-next.invariant.1
      c.in-Some.found.bindings (λ s. ground s (term c.in-Some.found.ty))
      (subst (λ ms. Infers (TypeOf ms c.next-item.result.value) c.loop-next.asked c.in-Some.found.bindings (λ s. ground s (term c.in-Some.found.ty))) c.as_slice.ensures
      (subst (Finds (TypeOf c.as_slice.result.now c.next-item.result.value) c.loop-next.asked) c.in-Some.is c.in_ok-found.ensures)),
  behind_grow c.args.names c.as_slice-next-items.result.now c.args.bindings c.requires c.loop-next.asked c.loop-next.inner c.loop-next.next-index c.next-item.result c.loop-next-test.true c.next-item.is c.loop-next.invariant.0 c.loop-next.invariant.1
      c.push.new.self (λ s. one_name s c.loop-next.inner c.push.new.self _ c.in_ok-push.ensures.ok),
)

pub infer_block-returns : goal.infer_block-returns
infer_block-returns t c =
    block_ends c.args.block.now c.as_slice-next-items.result.now (out-Body c.args.block.now).result c.as_slice-next-items.ensures refl c.args.names c.args.bindings c.requires c.loop-next.asked c.loop-next.inner c.loop-next.next-index c.loop-next-test.false c.loop-next.invariant c.infer-2.result
    (subst (λ ms. IfOk c.infer-2.result (Finds (TypeOf ms (out-Body c.args.block.now).result) c.loop-next.asked)) c.as_slice-2.ensures c.infer-2.ensures)

pub infer_function-returns-in-None-2 : goal.infer_function-returns-in-None-2
infer_function-returns-in-None-2 t c =
    no_block c.args.names.now c.args.params.now (body c.args.block.now).lets (body c.args.block.now).result c.args.bindings (block_declared c.args.params.now c.args.block.now c.as_slice.result.now c.as_slice.ensures c.are_declared.result c.are_declared.ensures c.if-not-are_declared.false)
    c.loop-next.scoped.bindings c.loop-next.scoped.block
    (params_all c.args.names.now c.args.params.now c.args.bindings c.requires c.loop-next.scoped.bindings (λ s. inside s c.loop-next.scoped.block) c.loop-next.next-index c.loop-next-test.false c.loop-next.invariant)
    (subst (Finds (λ s u. BlockIn (body c.args.block.now).lets (body c.args.block.now).result (env_under s c.loop-next.scoped.block.names) u) c.loop-next.scoped.bindings) c.in-None-2.is c.in_ok-found.ensures)

pub infer_function-returns-in_ok-made-in-Some-2 : goal.infer_function-returns-in_ok-made-in-Some-2
infer_function-returns-in_ok-made-in-Some-2 t c =
    function_found c.args.names.now c.args.params.now (body c.args.block.now).lets (body c.args.block.now).result c.args.bindings (block_declared c.args.params.now c.args.block.now c.as_slice.result.now c.as_slice.ensures c.are_declared.result c.are_declared.ensures c.if-not-are_declared.false)
    c.loop-next.scoped.bindings c.loop-next.scoped.block
    (params_all c.args.names.now c.args.params.now c.args.bindings c.requires c.loop-next.scoped.bindings (λ s. inside s c.loop-next.scoped.block) c.loop-next.next-index c.loop-next-test.false c.loop-next.invariant)
    c.in-Some-2.found.bindings c.in_ok-made-in-Some-2.made.bindings (λ s. ground s (term c.in-Some-2.found.ty)) (λ s. ground s (term c.in_ok-made-in-Some-2.made.ty))
    (subst (Finds (λ s u. BlockIn (body c.args.block.now).lets (body c.args.block.now).result (env_under s c.loop-next.scoped.block.names) u) c.loop-next.scoped.bindings) c.in-Some-2.is c.in_ok-found.ensures) c.in_ok-made-in-Some-2.ensures
