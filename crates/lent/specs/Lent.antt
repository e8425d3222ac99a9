-- What a tick of a lent run answers. (docs/RULES.md, sections 6.10 to 6.19.)
use Rattle.run.specs.declared.TickStep.{TickStep}
use Rattle.lent.specs.declared.TickAnswer.{TickAnswer}

-- The answer and the late count of a tick by value. These are what the tick of a lent run answers; the next run stays behind the reference. (6.14, 6.19)
abbrev pub tick_answer_of : TickStep → TickAnswer
tick_answer_of step = record { answer = step.answer; late = step.late }
