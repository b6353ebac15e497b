use Rattle.std.proofs.Common.{◌*◌, ◌+◌, map, take, Option}
use Rattle.fx_types.specs.Instance.{ground, ground_fields}
use Rattle.fx_types.specs.Shape.{term, entry_term, fields_of}
use Rattle.fx_infer.specs.Infers.{Infers, Asks}
use Rattle.fx_infer.specs.Records.{MakesOf}
use Rattle.fx_schemes.specs.declared.list.Builtin.{Builtin}
use Rattle.fx_infer.specs.Callees.{AreArgs, IsIdOf}
use Rattle.fx_infer.proofs.PipeArms.{PipesOf}
use Rattle.fx_infer.proofs.ChainArms.{ChainOf}
use Rattle.fx_infer.proofs.MoreArms.{ItemsOf}
use Rattle.fx_infer.proofs.TextArms.{TextOf}
use Rattle.fx_infer.specs.Functions.{inside}
use Rattle.fx_infer.proofs.FunctionArms.{ParamsOf}
use Rattle.fx_infer.proofs.LetArms.{LetsOf, AreBehind}
use Rattle.fx_infer.proofs.infer.+infer.Given as goal

abbrev pub decreases-infer : goal.decreases-infer
decreases-infer l = 8 * l.room

abbrev pub decreases-infer_prefix : goal.decreases-infer_prefix
decreases-infer_prefix l = 8 * l.room + 2

abbrev pub decreases-infer_index : goal.decreases-infer_index
decreases-infer_index l = 8 * l.room + 2

abbrev pub decreases-infer_member : goal.decreases-infer_member
decreases-infer_member l = 8 * l.room + 2

abbrev pub decreases-infer_record : goal.decreases-infer_record
decreases-infer_record l = 8 * l.room + 3

abbrev pub decreases-infer_base : goal.decreases-infer_base
decreases-infer_base l = 8 * l.room + 2

abbrev pub decreases-infer_fields : goal.decreases-infer_fields
decreases-infer_fields l = 8 * l.room + 2

abbrev pub invariant-infer_fields-loop-prop : goal.invariant-infer_fields-loop-prop
invariant-infer_fields-loop-prop l = Infers (MakesOf l.names (take l.prop-index l.props)) l.fn.bindings l.asked (λ s. ground_fields s (fields_of (map entry_term l.fields)))

abbrev pub decreases-infer_text : goal.decreases-infer_text
decreases-infer_text l = 8 * l.room + 2

abbrev pub decreases-infer_part : goal.decreases-infer_part
decreases-infer_part l = 8 * l.room + 1

abbrev pub invariant-infer_text-loop-next : goal.invariant-infer_text-loop-next
invariant-infer_text-loop-next l = Asks (TextOf l.names (take l.next-index l.parts)) l.fn.bindings l.asked

abbrev pub decreases-typed : goal.decreases-typed
decreases-typed l = 8 * l.room + 1

abbrev pub decreases-infer_if : goal.decreases-infer_if
decreases-infer_if l = 8 * l.room + 2

abbrev pub decreases-infer_array : goal.decreases-infer_array
decreases-infer_array l = 8 * l.room + 2

abbrev pub invariant-infer_array-loop-item : goal.invariant-infer_array-loop-item
invariant-infer_array-loop-item l = Asks (λ s. ItemsOf l.names (take l.item-index l.items) s (ground s (term l.element.ty))) l.initial.asked l.asked

abbrev pub decreases-infer_name : goal.decreases-infer_name
decreases-infer_name l = 8 * l.room + 1

abbrev pub decreases-infer_link : goal.decreases-infer_link
decreases-infer_link l = 8 * l.room + 1

abbrev pub decreases-infer_chain : goal.decreases-infer_chain
decreases-infer_chain l = 8 * l.room + 2

abbrev pub invariant-infer_chain-loop-next : goal.invariant-infer_chain-loop-next
invariant-infer_chain-loop-next l = Infers (ChainOf l.names l.first (take l.next-index l.rest)) l.fn.bindings l.left.bindings (λ s. ground s (term l.left.ty))

abbrev pub decreases-infer_pipe : goal.decreases-infer_pipe
decreases-infer_pipe l = 8 * l.room + 6

abbrev pub invariant-infer_pipe-loop-call : goal.invariant-infer_pipe-loop-call
invariant-infer_pipe-loop-call l = Infers (PipesOf l.names l.first (take l.call-index l.calls)) l.fn.bindings l.piped.bindings (λ s. ground s (term l.piped.ty))

abbrev pub decreases-infer_piped : goal.decreases-infer_piped
decreases-infer_piped l = 8 * l.room + 5

abbrev pub decreases-infer_call : goal.decreases-infer_call
decreases-infer_call l = 8 * l.room + 4

abbrev pub decreases-call_native : goal.decreases-call_native
decreases-call_native l = 8 * l.room + 3

abbrev pub decreases-call_value : goal.decreases-call_value
decreases-call_value l = 8 * l.room + 3

abbrev pub decreases-infer_args : goal.decreases-infer_args
decreases-infer_args l = 8 * l.room + 2

abbrev pub invariant-infer_args-loop-arg : goal.invariant-infer_args-loop-arg
invariant-infer_args-loop-arg l = (b : Option Builtin) → IsIdOf l.of b → AreArgs b l.names (take l.arg-index l.args) l.fn.bindings l.asked l.entries

abbrev pub decreases-infer_arg : goal.decreases-infer_arg
decreases-infer_arg l = 8 * l.room + 1

abbrev pub decreases-infer_function : goal.decreases-infer_function
decreases-infer_function l = 8 * l.room + 3

abbrev pub invariant-infer_function-loop-next : goal.invariant-infer_function-loop-next
invariant-infer_function-loop-next l = Infers (ParamsOf l.names (take l.next-index l.params)) l.fn.bindings l.scoped.bindings (λ s. inside s l.scoped.block)

abbrev pub decreases-infer_param : goal.decreases-infer_param
decreases-infer_param l = 8 * l.room + 2

abbrev pub decreases-infer_default : goal.decreases-infer_default
decreases-infer_default l = 8 * l.room + 1

abbrev pub decreases-infer_block : goal.decreases-infer_block
decreases-infer_block l = 8 * l.room + 2

abbrev pub invariant-infer_block-loop-next : goal.invariant-infer_block-loop-next
invariant-infer_block-loop-next l = Asks (LetsOf l.fn.names (take l.next-index l.next-items)) l.fn.bindings l.asked × AreBehind l.fn.names (take l.next-index l.next-items) l.inner
