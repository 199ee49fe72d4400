-- The reader: what it finds in the bytes that are left, and its place afterwards. Assumes nothing.
--     size_in rest      the length that a header says
--     header_of rest    the length of the body: the version is 1 (31), the length lawful, and all bytes are there (32)
--     size_found r      that length, by what was found of the body; missing r says that bytes of the body are missing
--     next_of rest      what the next message asks, or that there is none
--     place_of at rest  the place after it
--     request_next r    what a message that was read asks
--     ShortNext r       the text of a message that has one is at most 80 bytes long
use Rattle.std.specs.Prelude.{ℕ, ◌+◌, ◌-◌, ◌*◌, ◌≤◌, Bool, true, false, cond, not, ◌||◌, List, length, take, drop, Some, None, Ok, Err, Option, Result, ◌==◌, nat_lt, slice_index}
use Rattle.std.specs.Borrow.{Bor}
use Rattle.line.specs.declared.messages.Message.{Message}
use Rattle.line.specs.declared.fault.LineFault.{LineFault}
use Rattle.line.specs.declared.fault.LineFault.TheVariants.{Version, Frame}
use Rattle.line.specs.Messages.{Request, message_of, request_of, text_size}

abbrev pub size_in : List ℕ → ℕ
size_in rest = slice_index rest 1 * 256 + slice_index rest 2

-- the version is asked for by the first byte alone
abbrev pub header_of : List ℕ → Result ℕ LineFault
header_of rest =
    cond (not (slice_index rest 0 == 1)) (Err Version)
    (cond (nat_lt (length rest) 3) (Err Frame)
    (cond (nat_lt (size_in rest) 1 || (nat_lt 84 (size_in rest) || nat_lt (length rest - 3) (size_in rest))) (Err Frame)
    (Ok (size_in rest))))

-- the same, by what was found of the body that a header announces: it is whole, or bytes of it are missing
abbrev pub size_found : Result (Option (Bor (List ℕ))) LineFault → Result ℕ LineFault
size_found (Ok (Some body)) = Ok (length body.now)
size_found (Ok None) = Err Frame
size_found (Err e) = Err e

abbrev pub missing : Result (Option (Bor (List ℕ))) LineFault → Bool
missing (Ok (Some body)) = false
missing (Ok None) = true
missing (Err e) = false

abbrev pub read_body : Result Request LineFault → Result (Option Request) LineFault
read_body (Ok q) = Ok (Some q)
read_body (Err e) = Err e

abbrev pub after_header : List ℕ → Result ℕ LineFault → Result (Option Request) LineFault
after_header rest (Ok n) = read_body (message_of (take n (drop 3 rest)))
after_header rest (Err e) = Err e

-- an empty rest is the end
unfoldable pub next_of : List ℕ → Result (Option Request) LineFault
next_of rest = cond (length rest == 0) (Ok None) (after_header rest (header_of rest))

-- past the message, if it was accepted; else the message's first byte
abbrev pub place_by : ℕ → List ℕ → Result (Option Request) LineFault → ℕ
place_by at rest (Ok None) = at
place_by at rest (Ok (Some q)) = at + 3 + size_in rest
place_by at rest (Err e) = at

unfoldable pub place_of : ℕ → List ℕ → ℕ
place_of at rest = place_by at rest (next_of rest)

abbrev pub request_next : Result (Option Message) LineFault → Result (Option Request) LineFault
request_next (Ok None) = Ok None
request_next (Ok (Some m)) = Ok (Some (request_of m))
request_next (Err e) = Err e

abbrev pub ShortNext : Result (Option Message) LineFault → Type 0
ShortNext (Ok None) = Unit {0}
ShortNext (Ok (Some m)) = text_size m ≤ 80
ShortNext (Err e) = Unit {0}
