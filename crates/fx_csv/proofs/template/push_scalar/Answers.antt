use Rattle.std.proofs.Common.{◌≡◌, ◌++◌, ◌∙◌, ap, sym, subst, OnOk}
use Rattle.fx_csv.specs.Cells.{scalar_text}
use Rattle.fx_csv.specs.Records.{field_bytes}
use Rattle.fx_csv.proofs.Plain.{int_field, time_field}
use Rattle.fx_csv.proofs.template.push_scalar.Goals as goal

pub returns-in-Int : goal.returns-in-Int
returns-in-Int c =
    subst (λ bs. OnOk c.push_int.result (c.push_int.new.out.items ≡ c.args.out.now.items ++ bs))
    (int_field c.in-Int.number ∙ ap (λ v. field_bytes (scalar_text v)) (sym c.in-Int.is)) c.push_int.ensures

pub returns-in-Time : goal.returns-in-Time
returns-in-Time c =
    subst (λ bs. OnOk c.push_time_at.result (c.push_time_at.new.out.items ≡ c.args.out.now.items ++ bs))
    (time_field c.in-Time.time ∙ ap (λ v. field_bytes (scalar_text v)) (sym c.in-Time.is)) c.push_time_at.ensures
