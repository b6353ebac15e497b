-- The types that the code keeps to itself, for laws of other crates.
use Rattle.fx_window.specs.declared.cutting.Bounds as cutting
use Rattle.fx_window.specs.declared.standing.Placed as placing
use Rattle.fx_window.specs.declared.standing.Stand as standing

abbrev pub Bounds : Type 0
Bounds = cutting.Bounds

abbrev pub Placed : Type 0
Placed = placing.Placed

abbrev pub Stand : Type 0
Stand = standing.Stand
