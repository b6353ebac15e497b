use Rattle.std.proofs.Common.{◌+◌, ◌*◌, take}
use Rattle.fx_unify.specs.Store.{entry}
use Rattle.fx_unify.specs.Sums.{names}
use Rattle.fx_generalize.specs.Named.{AreLabelsRead, AreFieldsRead, AreSlotsRead}
use Rattle.fx_generalize.proofs.read.Reader.+read.Given as goal

-- the fuel falls, and where it stays, the rank of the call does

abbrev pub decreases-read_type : goal.decreases-read_type
decreases-read_type l = 16 * l.fuel

abbrev pub decreases-read_element : goal.decreases-read_element
decreases-read_element l = 16 * l.fuel + 1

abbrev pub decreases-read_function : goal.decreases-read_function
decreases-read_function l = 16 * l.fuel + 3

abbrev pub decreases-read_parts : goal.decreases-read_parts
decreases-read_parts l = 16 * l.fuel + 2

abbrev pub decreases-read_labels : goal.decreases-read_labels
decreases-read_labels l = 16 * l.fuel + 1

abbrev pub decreases-read_pipe : goal.decreases-read_pipe
decreases-read_pipe l = 16 * l.fuel + 1

abbrev pub decreases-read_boxed_row : goal.decreases-read_boxed_row
decreases-read_boxed_row l = 16 * l.fuel + 6

abbrev pub decreases-read_row : goal.decreases-read_row
decreases-read_row l = 16 * l.fuel + 5

abbrev pub decreases-read_listed : goal.decreases-read_listed
decreases-read_listed l = 16 * l.fuel + 3

abbrev pub decreases-read_open : goal.decreases-read_open
decreases-read_open l = 16 * l.fuel + 4

abbrev pub decreases-read_slots : goal.decreases-read_slots
decreases-read_slots l = 16 * l.fuel + 2

abbrev pub decreases-read_root : goal.decreases-read_root
decreases-read_root l = 16 * l.fuel + 3

abbrev pub decreases-read_field : goal.decreases-read_field
decreases-read_field l = 16 * l.fuel + 2

abbrev pub decreases-read_view : goal.decreases-read_view
decreases-read_view l = 16 * l.fuel + 1

abbrev pub invariant-read_labels-loop-entry : goal.invariant-read_labels-loop-entry
invariant-read_labels-loop-entry l = AreLabelsRead (entry l.self.bindings.now.store) l.self.names.now (take l.entry-index l.entry-items) l.read

abbrev pub invariant-read_listed-loop-entry : goal.invariant-read_listed-loop-entry
invariant-read_listed-loop-entry l = AreFieldsRead (entry l.self.bindings.now.store) l.self.names.now (take l.entry-index l.entry-items) l.read

abbrev pub invariant-read_slots-loop-at : goal.invariant-read_slots-loop-at
invariant-read_slots-loop-at l = AreSlotsRead (entry l.self.bindings.now.store) l.self.names.now l.row l.root (names l.hidden) (take l.at-index l.labels) l.read
