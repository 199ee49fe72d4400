-- What each refusal of the line says. Assumes nothing.
--     told_to k f  the refusal that tells the fault f in reply to a message of kind k: the kind byte of the reply, the
--                  number, the seat, the height and the cell
use Rattle.std.specs.Prelude.{ℕ}
use Rattle.layout.specs.Refusals.{refusal, refusal_of}
use Rattle.line.specs.declared.fault.LineFault.{LineFault}
use Rattle.line.specs.declared.fault.LineFault.TheVariants.{ReplyRoom, Version, Frame, Kind, Length, Box}
use Rattle.line.specs.declared.fault.LineRefusal.{LineRefusal}

-- where the kind could not be read, or was not asked for, the kind byte is 0; what the box refuses is told unaltered
abbrev pub told_to : ℕ → LineFault → LineRefusal
told_to k ReplyRoom = record { kind = 0; refusal = refusal 30 0 }
told_to k Version = record { kind = 0; refusal = refusal 31 0 }
told_to k Frame = record { kind = 0; refusal = refusal 32 0 }
told_to k Kind = record { kind = 0; refusal = refusal 33 0 }
told_to k (Length j) = record { kind = j; refusal = refusal 34 0 }
told_to k (Box e) = record { kind = k; refusal = refusal_of e }
