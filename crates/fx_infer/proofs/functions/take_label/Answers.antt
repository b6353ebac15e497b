use Rattle.fx_types.specs.Instance.{ground_labels}
use Rattle.fx_infer.specs.Lists.{labels_in}
use Rattle.fx_infer.proofs.BlockLaws.{is_required, is_piped, is_given, label_taken, label_left_pipe, label_left_value}
use Rattle.fx_infer.proofs.functions.take_label.Goals as goal

pub returns-in_ok-push-in-Required : goal.returns-in_ok-push-in-Required
returns-in_ok-push-in-Required c =
    label_taken c.args.next.now.default c.args.next.now.label _ c.args.number c.args.required _ (is_required c.args.next.now.default c.in-Required.is) c.in_ok-label-in-Required.ensures c.in_ok-push-in-Required.ensures.ok

pub returns-in-Pipe : goal.returns-in-Pipe
returns-in-Pipe c s l = label_left_pipe c.args.next.now.default c.args.next.now.label (s.type_of c.args.number) (ground_labels s (labels_in c.args.required)) l (is_piped c.args.next.now.default c.in-Pipe.is)

pub returns-in-Value : goal.returns-in-Value
returns-in-Value c s l =
    let k = is_given c.args.next.now.default c.in-Value.field-0 c.in-Value.is in
    label_left_value c.args.next.now.default c.args.next.now.label (s.type_of c.args.number) (ground_labels s (labels_in c.args.required)) l k.0 k.1
