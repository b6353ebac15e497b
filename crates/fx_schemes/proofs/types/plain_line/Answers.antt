use Rattle.fx_schemes.specs.Builtins.{IsLine}
use Rattle.fx_schemes.proofs.types.plain_line.Goals as goal

pub returns-in-From : goal.returns-in-From
unfolding IsLine
returns-in-From c = λ w. rw c.in-From.is c.integers.ensures

pub returns-in-Texts : goal.returns-in-Texts
unfolding IsLine
returns-in-Texts c = λ w. rw c.in-Texts.is c.texts.ensures

pub returns-in-Bools : goal.returns-in-Bools
unfolding IsLine
returns-in-Bools c = λ w. rw c.in-Bools.is c.truths.ensures

pub returns-in-ArrayFrom : goal.returns-in-ArrayFrom
unfolding IsLine
returns-in-ArrayFrom c = λ w. rw c.in-ArrayFrom.is c.array_from.ensures

pub returns-in-Range : goal.returns-in-Range
unfolding IsLine
returns-in-Range c = λ w. rw c.in-Range.is c.range.ensures

pub returns-in-Map : goal.returns-in-Map
unfolding IsLine
returns-in-Map c = λ w. rw c.in-Map.is c.map.ensures

pub returns-in-Union : goal.returns-in-Union
unfolding IsLine
returns-in-Union c = λ w. rw c.in-Union.is c.union.ensures

pub returns-in-Window : goal.returns-in-Window
unfolding IsLine
returns-in-Window c = λ w. rw c.in-Window.is c.window.ensures

pub returns-in-Reduce : goal.returns-in-Reduce
unfolding IsLine
returns-in-Reduce c = λ w. rw c.in-Reduce.is c.reduce.ensures

pub returns-in-Yield : goal.returns-in-Yield
unfolding IsLine
returns-in-Yield c = λ w. rw c.in-Yield.is c.yielded.ensures

pub returns-in-Limit : goal.returns-in-Limit
unfolding IsLine
returns-in-Limit c = λ w. rw c.in-Limit.is c.part.ensures

pub returns-in-Tail : goal.returns-in-Tail
unfolding IsLine
returns-in-Tail c = λ w. rw c.in-Tail.is c.part-in-Tail.ensures

pub returns-in-JoinInner : goal.returns-in-JoinInner
unfolding IsLine
returns-in-JoinInner c = λ w. rw c.in-JoinInner.is c.join.ensures

pub returns-in-JoinLeft : goal.returns-in-JoinLeft
unfolding IsLine
returns-in-JoinLeft c = λ w. rw c.in-JoinLeft.is c.join-in-JoinLeft.ensures

pub returns-in-JoinRight : goal.returns-in-JoinRight
unfolding IsLine
returns-in-JoinRight c = λ w. rw c.in-JoinRight.is c.join-in-JoinRight.ensures

pub returns-in-JoinFull : goal.returns-in-JoinFull
unfolding IsLine
returns-in-JoinFull c = λ w. rw c.in-JoinFull.is c.join-in-JoinFull.ensures

pub returns-in-True : goal.returns-in-True
unfolding IsLine
returns-in-True c = λ w. rw c.in-True.is c.truth.ensures

pub returns-in-False : goal.returns-in-False
unfolding IsLine
returns-in-False c = λ w. rw c.in-False.is c.truth-in-False.ensures

pub returns-in-Now : goal.returns-in-Now
unfolding IsLine
returns-in-Now c = λ w. rw c.in-Now.is c.now.ensures

pub returns-in-Int : goal.returns-in-Int
unfolding IsLine
returns-in-Int c = λ w. rw c.in-Int.is c.to_int.ensures

pub returns-in-String : goal.returns-in-String
unfolding IsLine
returns-in-String c = λ w. rw c.in-String.is c.to_text.ensures

pub returns-in-Bool : goal.returns-in-Bool
unfolding IsLine
returns-in-Bool c = λ w. rw c.in-Bool.is c.to_bool.ensures

pub returns-in-Time : goal.returns-in-Time
unfolding IsLine
returns-in-Time c = λ w. rw c.in-Time.is c.to_time.ensures

pub returns-in-Length : goal.returns-in-Length
unfolding IsLine
returns-in-Length c = λ w. rw c.in-Length.is c.length.ensures

pub returns-in-Contains : goal.returns-in-Contains
unfolding IsLine
returns-in-Contains c = λ w. rw c.in-Contains.is c.contains.ensures

pub returns-in-ContainsStr : goal.returns-in-ContainsStr
unfolding IsLine
returns-in-ContainsStr c = λ w. rw c.in-ContainsStr.is c.text_test.ensures

pub returns-in-HasPrefix : goal.returns-in-HasPrefix
unfolding IsLine
returns-in-HasPrefix c = λ w. rw c.in-HasPrefix.is c.text_test-in-HasPrefix.ensures

pub returns-in-HasSuffix : goal.returns-in-HasSuffix
unfolding IsLine
returns-in-HasSuffix c = λ w. rw c.in-HasSuffix.is c.text_test-in-HasSuffix.ensures

pub returns-in-Strlen : goal.returns-in-Strlen
unfolding IsLine
returns-in-Strlen c = λ w. rw c.in-Strlen.is c.strlen.ensures

pub returns-in-Substring : goal.returns-in-Substring
unfolding IsLine
returns-in-Substring c = λ w. rw c.in-Substring.is c.substring.ensures

pub returns-in-TrimPrefix : goal.returns-in-TrimPrefix
unfolding IsLine
returns-in-TrimPrefix c = λ w. rw c.in-TrimPrefix.is c.trimmed.ensures

pub returns-in-TrimSuffix : goal.returns-in-TrimSuffix
unfolding IsLine
returns-in-TrimSuffix c = λ w. rw c.in-TrimSuffix.is c.trimmed-in-TrimSuffix.ensures

pub returns-in-ReplaceAll : goal.returns-in-ReplaceAll
unfolding IsLine
returns-in-ReplaceAll c = λ w. rw c.in-ReplaceAll.is c.replace_all.ensures

pub returns-in-Split : goal.returns-in-Split
unfolding IsLine
returns-in-Split c = λ w. rw c.in-Split.is c.split.ensures

pub returns-in-JoinStr : goal.returns-in-JoinStr
unfolding IsLine
returns-in-JoinStr c = λ w. rw c.in-JoinStr.is c.join_str.ensures

pub returns-in-Repeat : goal.returns-in-Repeat
unfolding IsLine
returns-in-Repeat c = λ w. rw c.in-Repeat.is c.repeat.ensures

pub returns-in-Year : goal.returns-in-Year
unfolding IsLine
returns-in-Year c = λ w. rw c.in-Year.is c.time_part.ensures

pub returns-in-Month : goal.returns-in-Month
unfolding IsLine
returns-in-Month c = λ w. rw c.in-Month.is c.time_part-in-Month.ensures

pub returns-in-MonthDay : goal.returns-in-MonthDay
unfolding IsLine
returns-in-MonthDay c = λ w. rw c.in-MonthDay.is c.time_part-in-MonthDay.ensures

pub returns-in-YearDay : goal.returns-in-YearDay
unfolding IsLine
returns-in-YearDay c = λ w. rw c.in-YearDay.is c.time_part-in-YearDay.ensures

pub returns-in-WeekDay : goal.returns-in-WeekDay
unfolding IsLine
returns-in-WeekDay c = λ w. rw c.in-WeekDay.is c.time_part-in-WeekDay.ensures

pub returns-in-Hour : goal.returns-in-Hour
unfolding IsLine
returns-in-Hour c = λ w. rw c.in-Hour.is c.time_part-in-Hour.ensures

pub returns-in-Minute : goal.returns-in-Minute
unfolding IsLine
returns-in-Minute c = λ w. rw c.in-Minute.is c.time_part-in-Minute.ensures

pub returns-in-Second : goal.returns-in-Second
unfolding IsLine
returns-in-Second c = λ w. rw c.in-Second.is c.time_part-in-Second.ensures

pub returns-in-Nanosecond : goal.returns-in-Nanosecond
unfolding IsLine
returns-in-Nanosecond c = λ w. rw c.in-Nanosecond.is c.time_part-in-Nanosecond.ensures

pub returns-in-Truncate : goal.returns-in-Truncate
unfolding IsLine
returns-in-Truncate c = λ w. rw c.in-Truncate.is c.truncate.ensures

pub returns-in-Add : goal.returns-in-Add
unfolding IsLine
returns-in-Add c = λ w. rw c.in-Add.is c.moved.ensures

pub returns-in-Sub : goal.returns-in-Sub
unfolding IsLine
returns-in-Sub c = λ w. rw c.in-Sub.is c.moved-in-Sub.ensures
