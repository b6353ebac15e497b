use Rattle.std.proofs.Common.{true}
use Rattle.fx_value.specs.declared.scalar.Kind.TheVariants as kind
use Rattle.fx_unify.proofs.KindLaws.{of_kind_more, with_bool, with_int, with_text, with_time}
use Rattle.fx_unify.proofs.sorts.Sorts.with.Goals as goal

pub returns-in-Bool : goal.returns-in-Bool
returns-in-Bool c = of_kind_more c.args.self.now (record c.args.self.now { boolean = true }) c.args.kind kind.Bool c.in-Bool.is (with_bool c.args.self.now)

pub returns-in-Int : goal.returns-in-Int
returns-in-Int c = of_kind_more c.args.self.now (record c.args.self.now { integer = true }) c.args.kind kind.Int c.in-Int.is (with_int c.args.self.now)

pub returns-in-Text : goal.returns-in-Text
returns-in-Text c = of_kind_more c.args.self.now (record c.args.self.now { text = true }) c.args.kind kind.Text c.in-Text.is (with_text c.args.self.now)

pub returns-in-Time : goal.returns-in-Time
returns-in-Time c = of_kind_more c.args.self.now (record c.args.self.now { time = true }) c.args.kind kind.Time c.in-Time.is (with_time c.args.self.now)
