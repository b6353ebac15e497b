-- A run over files ends in one way, but for the devices and for want of memory.
use Rattle.std.proofs.Common.{◌≡◌, ℕ, ◌⊎◌, inl, inr, List, [], Option, Some, Result, Ok, Err, refl, sym, ◌∙◌, ap}
use Rattle.std.specs.List.{slice_get}
use Rattle.fx_base.specs.Outside.{Told}
use Rattle.fx_base.specs.declared.fault.Fault.{Fault}
use Rattle.fx_data.specs.declared.table.Table.{Table}
use Rattle.fx_line.specs.declared.line.LineMode.{LineMode}
use Rattle.fx_line.specs.Stored.{StoredPoint}
use Rattle.fx_load.specs.declared.loads.Load.{Load}
use Rattle.fx_load.specs.declared.loads.FileStop.{FileStop}
use Rattle.fx_load.specs.declared.loads.FileStop.TheVariants as file_stop
use Rattle.fx_load.specs.Loads.{FilesRead}
use Rattle.fx_load.proofs.LoadsOnce as once
use Rattle.fx_load.proofs.LoadsOnce.{same_files, same_files_stop, stop_or_files}
use Rattle.fx_top.specs.declared.command.Command.{Command}
use Rattle.fx_top.specs.declared.outcome.Outcome.{Outcome}
use Rattle.fx_top.specs.declared.outcome.Outcome.TheVariants as outcome
use Rattle.fx_top.specs.declared.query.Query.{Query}
use Rattle.fx_top.specs.Run.{run_of}
use Rattle.fx_top.specs.Answer.{EndsAs, IsSettled, NamesAt, Stops, buckets_of}

-- the answer of a query that was run, and that of a file that stops the load
abbrev pub end_of : Result (List Table) Fault → Outcome
end_of (Ok tables) = outcome.Done
end_of (Err fault) = outcome.Fault fault

abbrev pub stop_end : List ℕ → FileStop → Outcome
stop_end name file_stop.Failed = outcome.FileFault name
stop_end name (file_stop.TooLong taken) = outcome.TooLong name taken
stop_end name (file_stop.Line number cause) = outcome.Line name number cause
stop_end name (file_stop.TooMany number) = outcome.TooMany name number
stop_end name file_stop.Memory = outcome.Memory

-- all files were read, and the query was run over them
pub record Finishes (mode : LineMode) (told : Told) (c : Command) (q : Query) (o : Outcome) : Type 0 where
  pub stored : List StoredPoint
  pub read : FilesRead mode told c.loads [] stored
  pub answer : o ≡ end_of (run_of q (buckets_of c.loads) stored)

-- a file stopped the load
pub record Breaks (mode : LineMode) (told : Told) (c : Command) (o : Outcome) : Type 0 where
  pub name : List ℕ
  pub why : FileStop
  pub settled : once.IsSettled why
  pub stops : Stops mode told c name why
  pub answer : o ≡ stop_end name why

abbrev pub RunEnds : LineMode → Told → Command → Query → Outcome → Type 0
RunEnds mode told c q o = Finishes mode told c q o ⊎ Breaks mode told c o

pub run_ends : (mode : LineMode) (told : Told) (c : Command) (q : Query) (old new : Option (List ℕ)) (o : Outcome) → IsSettled o → EndsAs mode told c q old new o → RunEnds mode told c q o
run_ends mode told c q old new outcome.Done s h = inl (record { stored = h.1.stored; read = h.1.read; answer = ap end_of (sym h.1.run) })
run_ends mode told c q old new (outcome.Fault fault) s h = inl (record { stored = h.0.stored; read = h.0.read; answer = ap end_of (sym h.0.run) })
run_ends mode told c q old new (outcome.TooLong name taken) s h = inr (record { name = name; why = file_stop.TooLong taken; settled = tt; stops = h.0; answer = refl })
run_ends mode told c q old new (outcome.Line name number cause) s h = inr (record { name = name; why = file_stop.Line number cause; settled = tt; stops = h.0; answer = refl })
run_ends mode told c q old new (outcome.TooMany name number) s h = inr (record { name = name; why = file_stop.TooMany number; settled = tt; stops = h.0; answer = refl })
run_ends mode told c q old new (outcome.FileFault name) s h = absurd s
run_ends mode told c q old new outcome.SinkFault s h = absurd s
run_ends mode told c q old new outcome.Memory s h = absurd s
run_ends mode told c q old new outcome.Usage s h = absurd h
run_ends mode told c q old new outcome.NotBuilt s h = absurd h
run_ends mode told c q old new (outcome.Syntax place deep) s h = absurd h

same_name : (loads : List Load) (m n : ℕ) (a b : List ℕ) → m ≡ n → NamesAt loads m a → NamesAt loads n b → a ≡ b
same_name loads m n a b e g h =
    let found : Some g.0 ≡ Some h.0 = sym g.1 ∙ ap (slice_get loads) e ∙ h.1 in
    let same : g.0 ≡ h.0 = cc found in
    g.2 ∙ ap (λ l. l.file) same ∙ sym h.2

same_break : (mode : LineMode) (told : Told) (c : Command) (o p : Outcome) → Breaks mode told c o → Breaks mode told c p → o ≡ p
same_break mode told c o p g h =
    let same = same_files_stop mode told c.loads [] g.stops.place h.stops.place g.why h.why g.settled h.settled g.stops.at h.stops.at in
    let names = same_name c.loads g.stops.place h.stops.place g.name h.name same.0 g.stops.names h.stops.names in
    g.answer ∙ (λ i. stop_end (names i) (same.1 i)) ∙ sym h.answer

never_both : (mode : LineMode) (told : Told) (c : Command) (q : Query) (o p : Outcome) → Finishes mode told c q o → Breaks mode told c p → ⊥
never_both mode told c q o p g h = stop_or_files mode told c.loads [] g.stored h.stops.place h.why h.settled h.stops.at g.read

pub same_run : (mode : LineMode) (told : Told) (c : Command) (q : Query) (o p : Outcome) → RunEnds mode told c q o → RunEnds mode told c q p → o ≡ p
same_run mode told c q o p (inl g) (inl h) =
    g.answer ∙ ap (λ s. end_of (run_of q (buckets_of c.loads) s)) (same_files mode told c.loads [] g.stored h.stored g.read h.read) ∙ sym h.answer
same_run mode told c q o p (inl g) (inr h) = absurd (never_both mode told c q o p g h)
same_run mode told c q o p (inr g) (inl h) = absurd (never_both mode told c q p o h g)
same_run mode told c q o p (inr g) (inr h) = same_break mode told c o p g h
