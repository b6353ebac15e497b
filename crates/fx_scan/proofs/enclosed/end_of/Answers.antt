use Rattle.std.proofs.Common.{sym, ◌∙◌, arith}
use Rattle.fx_scan.proofs.TextLemmas.{end_goes, end_ends, end_breaks, end_none}
use Rattle.fx_scan.proofs.enclosed.end_of.Goals as goal

pub returns-in-Ends-clause-value : goal.returns-in-Ends-clause-value
returns-in-Ends-clause-value c =
    end_ends c.args.s.now c.bytes.i c.bytes.held c.in-Ends.opens _ (omega arith) (sym c.next_step.ensures ∙ c.in-Ends.is) c.bytes.invariant

pub returns-in-Breaks-clause-value : goal.returns-in-Breaks-clause-value
returns-in-Breaks-clause-value c =
    end_breaks c.args.s.now c.bytes.i c.bytes.held _ (omega arith) (sym c.next_step.ensures ∙ c.in-Breaks.is) c.bytes.invariant

pub bytes-preserved : goal.bytes-preserved
bytes-preserved c =
    end_goes c.args.s.now c.bytes.i c.bytes.held c.in-Goes.next _ (omega arith) (sym c.next_step.ensures ∙ c.in-Goes.is) c.bytes.invariant

pub returns-clause-value : goal.returns-clause-value
returns-clause-value c = end_none c.args.s.now c.bytes.i c.bytes.held _ (omega arith) c.bytes.invariant
