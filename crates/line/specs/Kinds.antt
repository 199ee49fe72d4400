-- Kinds of messages, and the byte that tells each. Assumes nothing.
--     kind_number k  the byte of the kind k
--     KindOf n r     r is the kind of the byte n, or that there is none (33)
--     kind_byte o    the kind byte of a reply
use Rattle.std.specs.Prelude.{◌≡◌, ℕ, ◌<◌, ◌≤◌, Some, None, Ok, Err, Option, Result}
use Rattle.line.specs.declared.kinds.Kind.{Kind}
use Rattle.line.specs.declared.kinds.Kind.TheVariants.{Apply, Poll, GiveUp, Leave, Look, Publish}
use Rattle.line.specs.declared.fault.LineFault.{LineFault}
use Rattle.line.specs.declared.fault.LineFault.TheVariants.{Kind as NoKind}

abbrev pub kind_number : Kind → ℕ
kind_number Apply = 1
kind_number Poll = 2
kind_number GiveUp = 3
kind_number Leave = 4
kind_number Look = 5
kind_number Publish = 6

abbrev pub KindOf : ℕ → Result Kind LineFault → Type 0
KindOf n (Ok k) = kind_number k ≡ n
KindOf n (Err f) = (f ≡ NoKind) × (1 ≤ n → 6 < n)

-- the kind byte of a reply, 0 where no kind is known
abbrev pub kind_byte : Option Kind → ℕ
kind_byte (Some k) = kind_number k
kind_byte None = 0
