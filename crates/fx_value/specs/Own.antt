-- Which of its own values a row gives.
use Rattle.fx_value.specs.declared.head.OwnPlace.{OwnPlace}
use Rattle.fx_value.specs.declared.head.OwnPlace.TheVariants as own
use Rattle.fx_value.specs.declared.source.Source.{Source}
use Rattle.fx_value.specs.declared.source.Source.TheVariants.{First, Second}

abbrev pub source_of : OwnPlace → Source
source_of own.First = First
source_of own.Second = Second
