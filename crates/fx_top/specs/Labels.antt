-- The engine's own labels.
use Rattle.std.specs.Prelude.{◌≡◌, codes}
use Rattle.fx_top.specs.declared.labels.Labels.{Labels}

pub record AreLabels (l : Labels) : Type 0 where
  pub field : l.field ≡ codes "_field"
  pub measurement : l.measurement ≡ codes "_measurement"
  pub start : l.start ≡ codes "_start"
  pub stop : l.stop ≡ codes "_stop"
  pub time : l.time ≡ codes "_time"
  pub value : l.value ≡ codes "_value"
