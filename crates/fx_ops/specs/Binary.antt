-- Operators between two operands.
use Rattle.std.specs.Prelude.{◌&&◌, ◌++◌, not, Bool, true, Option, None, Some, Result, Ok, ◌+ℤ◌, ◌-ℤ◌, ◌*ℤ◌}
use Rattle.std.specs.Option.{is_some}
use Rattle.std.specs.Ordering.{is_eq, is_lt, is_gt}
use Rattle.fx_base.specs.declared.fault.FaultKind.{FaultKind}
use Rattle.fx_value.specs.declared.scalar.Kind.{Kind}
use Rattle.fx_value.specs.declared.scalar.Kind.TheVariants as kind
use Rattle.fx_value.specs.declared.scalar.Scalar.{Scalar}
use Rattle.fx_value.specs.declared.scalar.Scalar.TheVariants as scalar
use Rattle.fx_value.specs.Scalar.{kind_of, scalar_cmp}
use Rattle.fx_ops.specs.declared.operator.BinaryOp.{BinaryOp}
use Rattle.fx_ops.specs.declared.operator.BinaryOp.TheVariants.{Add, Sub, Mul, Div, Rem, Eq, Ne, Lt, Le, Gt, Ge}
use Rattle.fx_ops.specs.declared.work.Work.{Work}
use Rattle.fx_ops.specs.declared.work.Work.TheVariants.{Plus, Minus, Times, Over, Rest, Join, Equal, Differ, Less, AtMost, More, AtLeast}
use Rattle.fx_ops.specs.Kinds.{is_kind}
use Rattle.fx_ops.specs.Limit.{limited}
use Rattle.fx_ops.specs.Operand.{number, bytes}
use Rattle.fx_ops.specs.Whole.{whole, quotient, remainder}

-- what an operator does to operands of a kind, None where it takes no such operands
abbrev pub work_of : BinaryOp → Kind → Option Work
work_of Add kind.Int = Some Plus
work_of Add kind.Text = Some Join
work_of Sub kind.Int = Some Minus
work_of Mul kind.Int = Some Times
work_of Div kind.Int = Some Over
work_of Rem kind.Int = Some Rest
work_of Eq _ = Some Equal
work_of Ne _ = Some Differ
work_of Lt kind.Int = Some Less
work_of Lt kind.Text = Some Less
work_of Lt kind.Time = Some Less
work_of Le kind.Int = Some AtMost
work_of Le kind.Text = Some AtMost
work_of Le kind.Time = Some AtMost
work_of Gt kind.Int = Some More
work_of Gt kind.Text = Some More
work_of Gt kind.Time = Some More
work_of Ge kind.Int = Some AtLeast
work_of Ge kind.Text = Some AtLeast
work_of Ge kind.Time = Some AtLeast
work_of _ _ = None

-- what the work gives
abbrev pub worked : Work → Scalar → Scalar → Result Scalar FaultKind
worked Plus a b = whole (number a +ℤ number b)
worked Minus a b = whole (number a -ℤ number b)
worked Times a b = whole (number a *ℤ number b)
worked Over a b = quotient (number a) (number b)
worked Rest a b = remainder (number a) (number b)
worked Join a b = limited (bytes a ++ bytes b)
worked Equal a b = Ok (scalar.Bool (is_eq (scalar_cmp a b)))
worked Differ a b = Ok (scalar.Bool (not (is_eq (scalar_cmp a b))))
worked Less a b = Ok (scalar.Bool (is_lt (scalar_cmp a b)))
worked AtMost a b = Ok (scalar.Bool (not (is_gt (scalar_cmp a b))))
worked More a b = Ok (scalar.Bool (is_gt (scalar_cmp a b)))
worked AtLeast a b = Ok (scalar.Bool (not (is_lt (scalar_cmp a b))))

-- the operator takes null and operands of this kind
abbrev pub takes_kind : BinaryOp → Option Kind → Bool
takes_kind which None = true
takes_kind which (Some k) = is_some (work_of which k)

-- the other operand is of the kind of this one, where neither is null
abbrev pub is_like : Option Kind → Scalar → Bool
is_like None b = true
is_like (Some k) b = is_kind b k

-- the operator takes the operands: each is null or of a kind that it takes, and two that are not null are of one kind
abbrev pub is_taken : BinaryOp → Scalar → Scalar → Bool
is_taken which a b = takes_kind which (kind_of a) && (takes_kind which (kind_of b) && is_like (kind_of a) b)

-- the kind of what the operator gives for operands of a kind
abbrev pub answer_kind : BinaryOp → Kind → Kind
answer_kind Eq k = kind.Bool
answer_kind Ne k = kind.Bool
answer_kind Lt k = kind.Bool
answer_kind Le k = kind.Bool
answer_kind Gt k = kind.Bool
answer_kind Ge k = kind.Bool
answer_kind _ k = k

-- the work, where there is one
abbrev pub worked_at : Option Work → Scalar → Scalar → Result Scalar FaultKind
worked_at (Some work) a b = worked work a b
worked_at None a b = Ok scalar.Null

-- the operator on operands of these kinds, null where one of them is null
abbrev pub at_kinds : BinaryOp → Option Kind → Option Kind → Scalar → Scalar → Result Scalar FaultKind
at_kinds which (Some k) (Some l) a b = worked_at (work_of which k) a b
at_kinds which _ _ a b = Ok scalar.Null

-- the value or the fault of an operator
abbrev pub binary_of : BinaryOp → Scalar → Scalar → Result Scalar FaultKind
binary_of which a b = at_kinds which (kind_of a) (kind_of b) a b
