-- How the answers of the stages make those of the whole.
use Rattle.std.proofs.Common.{◌≡◌, ℕ, ℤ, List, [], length, take, Option, None, Some, Ok, Err, refl, sym, ◌∙◌, ap, subst, append-nil, inl, inr}
use Rattle.std.proofs.Math.Seq.{take-length}
use Rattle.std.specs.Prelude.{◌⊎◌}
use Rattle.fx_base.specs.Outside.{Told, appended}
use Rattle.fx_line.specs.declared.line.LineMode.{LineMode}
use Rattle.fx_line.specs.Stored.{StoredPoint}
use Rattle.fx_load.specs.declared.loads.Load.{Load}
use Rattle.fx_load.specs.declared.loads.FileStop.{FileStop}
use Rattle.fx_load.specs.declared.loads.FileStop.TheVariants as file_stop
use Rattle.fx_load.specs.declared.loads.LoadsStop.{LoadsStop}
use Rattle.fx_load.specs.Loads.{FilesLoad, FilesRead, IsLong, StopCauses, StopsFiles}
use Rattle.fx_series.specs.Store.{Kept, StandsFor}
use Rattle.fx_top.specs.declared.command.Command.{Command}
use Rattle.fx_top.specs.declared.query.Query.{Query}
use Rattle.fx_top.specs.declared.outcome.Outcome.{Outcome}
use Rattle.fx_top.specs.declared.outcome.Outcome.TheVariants as outcome
use Rattle.fx_top.specs.declared.run.TheConstants.{MOST_SCRIPT_BYTES}
use Rattle.fx_top.specs.Command.{IsCommand, mode_of}
use Rattle.fx_top.specs.Answer.{Answers, Asks, Causes, EndsAs, NamesAt, NamesFile, Runs, Stops, Writes, buckets_of, yield_text}
use Rattle.fx_top.specs.Stage.{DataAnswers, FileAnswers, FileCauses, RunCauses, StopAnswers}

-- nothing more is written by no bytes
appended-nil : (old : Option (List ℕ)) → appended old [] ≡ old
appended-nil None = refl
appended-nil (Some bytes) = ap (λ b. Some b) (append-nil bytes)

no_text : (old new : Option (List ℕ)) → new ≡ old → new ≡ appended old (take 0 (yield_text []))
no_text old new h = h ∙ sym (appended-nil old)

-- ---- the run behind a script

-- a query over the points of the files is the run over the files
pub data_ends : (mode : LineMode) (told : Told) (c : Command) (q : Query) (stored : List StoredPoint) (old new : Option (List ℕ)) (o : Outcome) → FilesRead mode told c.loads [] stored
    → DataAnswers q (buckets_of c.loads) stored old new o → EndsAs mode told c q old new o
data_ends mode told c q stored old new outcome.Done read h = (h.0, record { stored = stored; read = read; run = h.1 }, h.2)
data_ends mode told c q stored old new (outcome.FileFault name) read h = absurd h
data_ends mode told c q stored old new (outcome.TooLong name taken) read h = absurd h
data_ends mode told c q stored old new (outcome.Line name number cause) read h = absurd h
data_ends mode told c q stored old new (outcome.TooMany name number) read h = absurd h
data_ends mode told c q stored old new (outcome.Fault fault) read h = (record { stored = stored; read = read; run = h.0 }, h.1)
data_ends mode told c q stored old new outcome.SinkFault read h = (h.0, h.1, record { stored = stored; read = read; run = h.2 }, h.3)
data_ends mode told c q stored old new outcome.Memory read (inl h) = inl h
data_ends mode told c q stored old new outcome.Memory read (inr h) = inr (h.0, h.1, record { stored = stored; read = read; run = h.2 }, h.3)
data_ends mode told c q stored old new outcome.Usage read h = absurd h
data_ends mode told c q stored old new outcome.NotBuilt read h = absurd h
data_ends mode told c q stored old new (outcome.Syntax place deep) read h = absurd h

pub data_writes : (q : Query) (buckets : List (List ℕ)) (stored : List StoredPoint) (old new : Option (List ℕ)) (o : Outcome) → DataAnswers q buckets stored old new o → Writes old new o
data_writes q buckets stored old new outcome.Done h = (h.0, h.2)
data_writes q buckets stored old new (outcome.FileFault name) h = absurd h
data_writes q buckets stored old new (outcome.TooLong name taken) h = absurd h
data_writes q buckets stored old new (outcome.Line name number cause) h = absurd h
data_writes q buckets stored old new (outcome.TooMany name number) h = absurd h
data_writes q buckets stored old new (outcome.Fault fault) h = h.1
data_writes q buckets stored old new outcome.SinkFault h = (h.0, h.1, h.3)
data_writes q buckets stored old new outcome.Memory (inl h) = ([], 0, no_text old new h)
data_writes q buckets stored old new outcome.Memory (inr h) = (h.0, h.1, h.3)
data_writes q buckets stored old new outcome.Usage h = absurd h
data_writes q buckets stored old new outcome.NotBuilt h = absurd h
data_writes q buckets stored old new (outcome.Syntax place deep) h = absurd h

pub data_causes : (q : Query) (buckets : List (List ℕ)) (stored : List StoredPoint) (old new : Option (List ℕ)) (files files' out out' : ℕ) (o : Outcome) → DataAnswers q buckets stored old new o → files' ≡ files → RunCauses out out' o → Causes files files' out out' o
data_causes q buckets stored old new files files' out out' outcome.Done h same causes = (same, causes)
data_causes q buckets stored old new files files' out out' (outcome.FileFault name) h same causes = absurd h
data_causes q buckets stored old new files files' out out' (outcome.TooLong name taken) h same causes = absurd h
data_causes q buckets stored old new files files' out out' (outcome.Line name number cause) h same causes = absurd h
data_causes q buckets stored old new files files' out out' (outcome.TooMany name number) h same causes = absurd h
data_causes q buckets stored old new files files' out out' (outcome.Fault fault) h same causes = (same, causes)
data_causes q buckets stored old new files files' out out' outcome.SinkFault h same causes = (same, causes)
data_causes q buckets stored old new files files' out out' outcome.Memory h same causes = tt
data_causes q buckets stored old new files files' out out' outcome.Usage h same causes = absurd h
data_causes q buckets stored old new files files' out out' outcome.NotBuilt h same causes = absurd h
data_causes q buckets stored old new files files' out out' (outcome.Syntax place deep) h same causes = absurd h

pub data_names : (q : Query) (buckets : List (List ℕ)) (stored : List StoredPoint) (old new : Option (List ℕ)) (words : List (List ℕ)) (o : Outcome) → DataAnswers q buckets stored old new o → NamesFile words o
data_names q buckets stored old new words outcome.Done h = tt
data_names q buckets stored old new words (outcome.FileFault name) h = absurd h
data_names q buckets stored old new words (outcome.TooLong name taken) h = absurd h
data_names q buckets stored old new words (outcome.Line name number cause) h = absurd h
data_names q buckets stored old new words (outcome.TooMany name number) h = absurd h
data_names q buckets stored old new words (outcome.Fault fault) h = tt
data_names q buckets stored old new words outcome.SinkFault h = tt
data_names q buckets stored old new words outcome.Memory h = tt
data_names q buckets stored old new words outcome.Usage h = absurd h
data_names q buckets stored old new words outcome.NotBuilt h = absurd h
data_names q buckets stored old new words (outcome.Syntax place deep) h = absurd h

-- so is a load of the files that stops
stopped : (mode : LineMode) (told : Told) (c : Command) (stop : LoadsStop) (name : List ℕ) (why : FileStop) → StopsFiles mode told c.loads [] stop.place stop.stop → (stop.stop ≡ why) × NamesAt c.loads stop.place name → Stops mode told c name why
stopped mode told c stop name why at h = record { place = stop.place; at = subst (StopsFiles mode told c.loads [] stop.place) h.0 at; names = h.1 }

pub stop_ends : (mode : LineMode) (told : Told) (c : Command) (q : Query) (stop : LoadsStop) (old : Option (List ℕ)) (o : Outcome) → StopsFiles mode told c.loads [] stop.place stop.stop → StopAnswers stop c.loads o → EndsAs mode told c q old old o
stop_ends mode told c q stop old outcome.Done at h = absurd h
stop_ends mode told c q stop old (outcome.FileFault name) at h = (stopped mode told c stop name file_stop.Failed at h, refl)
stop_ends mode told c q stop old (outcome.TooLong name taken) at h = (stopped mode told c stop name (file_stop.TooLong taken) at h, refl)
stop_ends mode told c q stop old (outcome.Line name number cause) at h = (stopped mode told c stop name (file_stop.Line number cause) at h, refl)
stop_ends mode told c q stop old (outcome.TooMany name number) at h = (stopped mode told c stop name (file_stop.TooMany number) at h, refl)
stop_ends mode told c q stop old (outcome.Fault fault) at h = absurd h
stop_ends mode told c q stop old outcome.SinkFault at h = absurd h
stop_ends mode told c q stop old outcome.Memory at h = inl refl
stop_ends mode told c q stop old outcome.Usage at h = absurd h
stop_ends mode told c q stop old outcome.NotBuilt at h = absurd h
stop_ends mode told c q stop old (outcome.Syntax place deep) at h = absurd h

pub stop_writes : (stop : LoadsStop) (loads : List Load) (old : Option (List ℕ)) (o : Outcome) → StopAnswers stop loads o → Writes old old o
stop_writes stop loads old outcome.Done h = absurd h
stop_writes stop loads old (outcome.FileFault name) h = refl
stop_writes stop loads old (outcome.TooLong name taken) h = refl
stop_writes stop loads old (outcome.Line name number cause) h = refl
stop_writes stop loads old (outcome.TooMany name number) h = refl
stop_writes stop loads old (outcome.Fault fault) h = absurd h
stop_writes stop loads old outcome.SinkFault h = absurd h
stop_writes stop loads old outcome.Memory h = ([], 0, no_text old old refl)
stop_writes stop loads old outcome.Usage h = absurd h
stop_writes stop loads old outcome.NotBuilt h = absurd h
stop_writes stop loads old (outcome.Syntax place deep) h = absurd h

pub stop_causes : (stop : LoadsStop) (loads : List Load) (files files' out : ℕ) (o : Outcome) → StopCauses files files' stop.stop → StopAnswers stop loads o → Causes files files' out out o
stop_causes stop loads files files' out outcome.Done causes h = absurd h
stop_causes stop loads files files' out (outcome.FileFault name) causes h = (subst (StopCauses files files') h.0 causes, refl)
stop_causes stop loads files files' out (outcome.TooLong name taken) causes h = (subst (StopCauses files files') h.0 causes, refl)
stop_causes stop loads files files' out (outcome.Line name number cause) causes h = (subst (StopCauses files files') h.0 causes, refl)
stop_causes stop loads files files' out (outcome.TooMany name number) causes h = (subst (StopCauses files files') h.0 causes, refl)
stop_causes stop loads files files' out (outcome.Fault fault) causes h = absurd h
stop_causes stop loads files files' out outcome.SinkFault causes h = absurd h
stop_causes stop loads files files' out outcome.Memory causes h = tt
stop_causes stop loads files files' out outcome.Usage causes h = absurd h
stop_causes stop loads files files' out outcome.NotBuilt causes h = absurd h
stop_causes stop loads files files' out (outcome.Syntax place deep) causes h = absurd h

pub stop_names : (stop : LoadsStop) (words : List (List ℕ)) (c : Command) (o : Outcome) → IsCommand words c → StopAnswers stop c.loads o → NamesFile words o
stop_names stop words c outcome.Done is h = absurd h
stop_names stop words c (outcome.FileFault name) is h = inr (c, is, (stop.place, h.1))
stop_names stop words c (outcome.TooLong name taken) is h = inr (c, is, (stop.place, h.1))
stop_names stop words c (outcome.Line name number cause) is h = (c, is, (stop.place, h.1))
stop_names stop words c (outcome.TooMany name number) is h = (c, is, (stop.place, h.1))
stop_names stop words c (outcome.Fault fault) is h = absurd h
stop_names stop words c outcome.SinkFault is h = absurd h
stop_names stop words c outcome.Memory is h = tt
stop_names stop words c outcome.Usage is h = absurd h
stop_names stop words c outcome.NotBuilt is h = absurd h
stop_names stop words c (outcome.Syntax place deep) is h = absurd h

-- the run over the files is what the whole answers
run_is : (moment : ℤ) (told : Told) (words : List (List ℕ)) (c : Command) (q : Query) (old new : Option (List ℕ)) (o : Outcome) → Asks told words c q → EndsAs (mode_of moment c) told c q old new o → Runs moment told words old new o
run_is moment told words c q old new o asks h = record { command = c; query = q; asks = asks; ends = h }

pub ends_answers : (moment : ℤ) (told : Told) (words : List (List ℕ)) (c : Command) (q : Query) (old new : Option (List ℕ)) (o : Outcome) → Asks told words c q → EndsAs (mode_of moment c) told c q old new o → Answers moment told words old new o
ends_answers moment told words c q old new outcome.Done asks h = run_is moment told words c q old new outcome.Done asks h
ends_answers moment told words c q old new (outcome.FileFault name) asks h = inr (run_is moment told words c q old new (outcome.FileFault name) asks h)
ends_answers moment told words c q old new (outcome.TooLong name taken) asks h = inr (run_is moment told words c q old new (outcome.TooLong name taken) asks h)
ends_answers moment told words c q old new (outcome.Line name number cause) asks h = run_is moment told words c q old new (outcome.Line name number cause) asks h
ends_answers moment told words c q old new (outcome.TooMany name number) asks h = run_is moment told words c q old new (outcome.TooMany name number) asks h
ends_answers moment told words c q old new (outcome.Fault fault) asks h = run_is moment told words c q old new (outcome.Fault fault) asks h
ends_answers moment told words c q old new outcome.SinkFault asks h = run_is moment told words c q old new outcome.SinkFault asks h
ends_answers moment told words c q old new outcome.Memory asks h = inr (run_is moment told words c q old new outcome.Memory asks h)
ends_answers moment told words c q old new outcome.Usage asks h = absurd h
ends_answers moment told words c q old new outcome.NotBuilt asks h = absurd h
ends_answers moment told words c q old new (outcome.Syntax place deep) asks h = absurd h

-- files that were read, and a query over them
pub loaded_answers : (moment : ℤ) (mode : LineMode) (told : Told) (words : List (List ℕ)) (c : Command) (q : Query) (loads : List Load) (kept : Kept) (old new : Option (List ℕ)) (o : Outcome) → loads ≡ c.loads → mode ≡ mode_of moment c → Asks told words c q
    → FilesLoad mode told (buckets_of loads) loads [] kept (Ok tt) → ((buckets : List (List ℕ)) (stored : List StoredPoint) → StandsFor kept buckets stored → DataAnswers q buckets stored old new o) → Answers moment told words old new o
loaded_answers moment mode told words c q loads kept old new o e at asks h ends =
    let loaded = subst (λ m. FilesLoad m told (buckets_of c.loads) c.loads [] kept (Ok tt)) at (subst (λ ls. FilesLoad mode told (buckets_of ls) ls [] kept (Ok tt)) e h) in
    ends_answers moment told words c q old new o asks (data_ends (mode_of moment c) told c q loaded.0 old new o loaded.1 (ends (buckets_of c.loads) loaded.0 loaded.2))

-- files of which one stops the load
pub stopped_answers : (moment : ℤ) (mode : LineMode) (told : Told) (words : List (List ℕ)) (c : Command) (q : Query) (loads : List Load) (stop : LoadsStop) (old : Option (List ℕ)) (o : Outcome) → loads ≡ c.loads → mode ≡ mode_of moment c → Asks told words c q
    → StopsFiles mode told loads [] stop.place stop.stop → StopAnswers stop loads o → Answers moment told words old old o
stopped_answers moment mode told words c q loads stop old o e m asks at h =
    ends_answers moment told words c q old old o asks
    (stop_ends (mode_of moment c) told c q stop old o (subst (λ x. StopsFiles x told c.loads [] stop.place stop.stop) m (subst (λ ls. StopsFiles mode told ls [] stop.place stop.stop) e at)) (subst (λ ls. StopAnswers stop ls o) e h))

-- ---- a script that is refused as an answer of the whole

pub file_answers : (moment : ℤ) (told : Told) (words : List (List ℕ)) (c : Command) (old : Option (List ℕ)) (o : Outcome) → IsCommand words c → FileAnswers told c.script MOST_SCRIPT_BYTES (Err o) → Answers moment told words old old o
file_answers moment told words c old outcome.Done is h = absurd h
file_answers moment told words c old (outcome.FileFault name) is h = inl ((c, is, h), refl)
file_answers moment told words c old (outcome.TooLong name taken) is h = inl ((c, is, h.1), subst (λ n. IsLong told n MOST_SCRIPT_BYTES) (sym h.1) h.0, h.2, refl)
file_answers moment told words c old (outcome.Line name number cause) is h = absurd h
file_answers moment told words c old (outcome.TooMany name number) is h = absurd h
file_answers moment told words c old (outcome.Fault fault) is h = absurd h
file_answers moment told words c old outcome.SinkFault is h = absurd h
file_answers moment told words c old outcome.Memory is h = inl refl
file_answers moment told words c old outcome.Usage is h = absurd h
file_answers moment told words c old outcome.NotBuilt is h = absurd h
file_answers moment told words c old (outcome.Syntax place deep) is h = absurd h

pub file_causes : (name : List ℕ) (limit files files' out : ℕ) (o : Outcome) → FileCauses name limit files files' (Err o) → Causes files files' out out o
file_causes name limit files files' out outcome.Done h = absurd h
file_causes name limit files files' out (outcome.FileFault n) h = (h.0, refl)
file_causes name limit files files' out (outcome.TooLong n taken) h = (h.0, refl)
file_causes name limit files files' out (outcome.Line n number cause) h = absurd h
file_causes name limit files files' out (outcome.TooMany n number) h = absurd h
file_causes name limit files files' out (outcome.Fault fault) h = absurd h
file_causes name limit files files' out outcome.SinkFault h = absurd h
file_causes name limit files files' out outcome.Memory h = tt
file_causes name limit files files' out outcome.Usage h = absurd h
file_causes name limit files files' out outcome.NotBuilt h = absurd h
file_causes name limit files files' out (outcome.Syntax place deep) h = absurd h

pub file_writes : (name : List ℕ) (limit files files' : ℕ) (old : Option (List ℕ)) (o : Outcome) → FileCauses name limit files files' (Err o) → Writes old old o
file_writes name limit files files' old outcome.Done h = absurd h
file_writes name limit files files' old (outcome.FileFault n) h = refl
file_writes name limit files files' old (outcome.TooLong n taken) h = refl
file_writes name limit files files' old (outcome.Line n number cause) h = refl
file_writes name limit files files' old (outcome.TooMany n number) h = refl
file_writes name limit files files' old (outcome.Fault fault) h = refl
file_writes name limit files files' old outcome.SinkFault h = absurd h
file_writes name limit files files' old outcome.Memory h = ([], 0, no_text old old refl)
file_writes name limit files files' old outcome.Usage h = refl
file_writes name limit files files' old outcome.NotBuilt h = refl
file_writes name limit files files' old (outcome.Syntax place deep) h = refl

pub file_names : (words : List (List ℕ)) (c : Command) (limit files files' : ℕ) (o : Outcome) → IsCommand words c → FileCauses c.script limit files files' (Err o) → NamesFile words o
file_names words c limit files files' outcome.Done is h = absurd h
file_names words c limit files files' (outcome.FileFault name) is h = inl (c, is, h.1)
file_names words c limit files files' (outcome.TooLong name taken) is h = inl (c, is, h.1)
file_names words c limit files files' (outcome.Line name number cause) is h = absurd h
file_names words c limit files files' (outcome.TooMany name number) is h = absurd h
file_names words c limit files files' (outcome.Fault fault) is h = absurd h
file_names words c limit files files' outcome.SinkFault is h = absurd h
file_names words c limit files files' outcome.Memory is h = tt
file_names words c limit files files' outcome.Usage is h = absurd h
file_names words c limit files files' outcome.NotBuilt is h = absurd h
file_names words c limit files files' (outcome.Syntax place deep) is h = absurd h

-- what memory gives up at any moment
pub memory_writes : (old : Option (List ℕ)) → Writes old old outcome.Memory
memory_writes old = ([], 0, no_text old old refl)

-- ---- want of memory in place of another answer, when its line was to be told

pub forget_answers : (moment : ℤ) (told : Told) (words : List (List ℕ)) (old new : Option (List ℕ)) (o : Outcome) → Answers moment told words old new o → Answers moment told words old new outcome.Memory
forget_answers moment told words old new outcome.Usage h = inl h.1
forget_answers moment told words old new (outcome.FileFault name) (inl h) = inl h.1
forget_answers moment told words old new (outcome.FileFault name) (inr h) = inl h.ends.1
forget_answers moment told words old new (outcome.TooLong name taken) (inl h) = inl h.3
forget_answers moment told words old new (outcome.TooLong name taken) (inr h) = inl h.ends.1
forget_answers moment told words old new outcome.NotBuilt h = inl h.1
forget_answers moment told words old new (outcome.Syntax place deep) h = inl h.1
forget_answers moment told words old new outcome.Memory h = h
forget_answers moment told words old new (outcome.Line name number cause) h = inl h.ends.1
forget_answers moment told words old new (outcome.TooMany name number) h = inl h.ends.1
forget_answers moment told words old new (outcome.Fault fault) h = inl h.ends.1
forget_answers moment told words old new outcome.SinkFault h = inr (run_is moment told words h.command h.query old new outcome.Memory h.asks (inr h.ends))
forget_answers moment told words old new outcome.Done h = inr (run_is moment told words h.command h.query old new outcome.Memory h.asks
    (inr (h.ends.0, length (yield_text h.ends.0), h.ends.1, h.ends.2 ∙ ap (appended old) (sym (take-length (yield_text h.ends.0))))))

pub forget_writes : (old new : Option (List ℕ)) (o : Outcome) → Writes old new o → Writes old new outcome.Memory
forget_writes old new outcome.Done h = (h.0, length (yield_text h.0), h.1 ∙ ap (appended old) (sym (take-length (yield_text h.0))))
forget_writes old new outcome.SinkFault h = h
forget_writes old new outcome.Memory h = h
forget_writes old new outcome.Usage h = ([], 0, no_text old new h)
forget_writes old new (outcome.FileFault name) h = ([], 0, no_text old new h)
forget_writes old new (outcome.TooLong name taken) h = ([], 0, no_text old new h)
forget_writes old new outcome.NotBuilt h = ([], 0, no_text old new h)
forget_writes old new (outcome.Syntax place deep) h = ([], 0, no_text old new h)
forget_writes old new (outcome.Line name number cause) h = ([], 0, no_text old new h)
forget_writes old new (outcome.TooMany name number) h = ([], 0, no_text old new h)
forget_writes old new (outcome.Fault fault) h = ([], 0, no_text old new h)

-- ---- the answer that was told

pub told_answers : (moment : ℤ) (told : Told) (words : List (List ℕ)) (old new : Option (List ℕ)) (o r : Outcome) → ((r ≡ o) ⊎ (r ≡ outcome.Memory)) → Answers moment told words old new o → Answers moment told words old new r
told_answers moment told words old new o r (inl e) h = subst (λ a. Answers moment told words old new a) (sym e) h
told_answers moment told words old new o r (inr e) h = subst (λ a. Answers moment told words old new a) (sym e) (forget_answers moment told words old new o h)

pub told_writes : (old new : Option (List ℕ)) (o r : Outcome) → ((r ≡ o) ⊎ (r ≡ outcome.Memory)) → Writes old new o → Writes old new r
told_writes old new o r (inl e) h = subst (λ a. Writes old new a) (sym e) h
told_writes old new o r (inr e) h = subst (λ a. Writes old new a) (sym e) (forget_writes old new o h)
