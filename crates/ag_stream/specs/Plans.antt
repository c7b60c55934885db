-- What the plan of a draft's evaluation is.
use Rattle.std.specs.Prelude.{◌+◌, ◌<◌}
use Rattle.ag_stream.specs.declared.problem.ProblemDraft.{ProblemDraft}
use Rattle.ag_stream.specs.declared.dependence.Plan.{Plan}
use Rattle.ag_stream.specs.declared.dependence.Plan.TheVariants.{Order, Cycle}
use Rattle.ag_stream.specs.Dependence.{IsFirstOnCycle}
use Rattle.ag_stream.specs.Work.{IsOrder}

-- an order of dependence, or the first stream on a cycle, where a Boolean stream's number counts on from the integer ones
abbrev pub IsPlanOf : ProblemDraft → Plan → Type 0
IsPlanOf d (Order order) = IsOrder d order.items
IsPlanOf d (Cycle s) = (s < d.flags) × IsFirstOnCycle d (d.ints + s)
