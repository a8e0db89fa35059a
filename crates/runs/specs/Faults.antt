-- What a fault of the layout is told as.
use Rattle.layout.specs.declared.Fault.{Fault}
use Rattle.layout.specs.declared.Fault.TheVariants.{Memory, Cell}
use Rattle.runs.specs.declared.refusal.Refusal.{Refusal}
use Rattle.runs.specs.declared.refusal.Refusal.TheVariants as no

-- 1, or 4 with the first wrong cell
abbrev pub refusal_of : Fault → Refusal
refusal_of Memory = no.Memory
refusal_of (Cell i) = no.Misshapen i
