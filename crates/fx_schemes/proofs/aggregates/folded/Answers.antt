use Rattle.fx_schemes.proofs.aggregates.folded.Goals as goal

pub returns-in-Count : goal.returns-in-Count
returns-in-Count c = rw c.in-Count.is c.counted.ensures

pub returns-in-Sum : goal.returns-in-Sum
returns-in-Sum c = rw c.in-Sum.is c.summed.ensures

pub returns-in-Extreme : goal.returns-in-Extreme
returns-in-Extreme c = rw c.in-Extreme.is c.extremes.ensures

pub returns-in-End : goal.returns-in-End
returns-in-End c = rw c.in-End.is c.ends.ensures
