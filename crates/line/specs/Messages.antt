-- Messages: what each asks of the box, and how its body is read. Assumes nothing.
--     Request        what a message asks, a text by its bytes
--     request_of m   what the message m asks; request_in, of one that may not have been read
--     kind_of q      the kind byte of a request
--     message_of bs  what the body bs asks: the kind is known (33), and the length is right for the kind (34)
--     Short r        the text of a message that has one is at most 80 bytes long
use Rattle.std.specs.Prelude.{ℕ, ◌+◌, ◌*◌, ◌≤◌, Bool, cond, ◌&&◌, List, length, drop, Ok, Err, Result, ◌==◌, nat_le, slice_index}
use Rattle.line.specs.declared.messages.Message.{Message}
use Rattle.line.specs.declared.messages.Message.TheVariants.{Apply, Poll, GiveUp, Leave, Look, Publish}
use Rattle.line.specs.declared.fault.LineFault.{LineFault}
use Rattle.line.specs.declared.fault.LineFault.TheVariants.{Kind, Length}

-- the seat first, then the passage, then the coin or the text
pub data Request : Type 0 where
  applies : ℕ → Request
  polls : ℕ → ℕ → ℕ → Request
  quits : ℕ → ℕ → Request
  leaves : ℕ → ℕ → Request
  looks : ℕ → Request
  publishes : ℕ → ℕ → List ℕ → Request

abbrev pub request_of : Message → Request
request_of (Apply seat) = applies seat.0
request_of (Poll seat passage coin) = polls seat.0 passage.0 coin
request_of (GiveUp seat passage) = quits seat.0 passage.0
request_of (Leave seat passage) = leaves seat.0 passage.0
request_of (Look seat) = looks seat.0
request_of (Publish seat passage text) = publishes seat.0 passage.0 text.now

abbrev pub request_in : Result Message LineFault → Result Request LineFault
request_in (Ok m) = Ok (request_of m)
request_in (Err e) = Err e

abbrev pub kind_of : Request → ℕ
kind_of (applies p) = 1
kind_of (polls p n k) = 2
kind_of (quits p n) = 3
kind_of (leaves p n) = 4
kind_of (looks p) = 5
kind_of (publishes p n text) = 6

abbrev pub text_size : Message → ℕ
text_size (Apply seat) = 0
text_size (Poll seat passage coin) = 0
text_size (GiveUp seat passage) = 0
text_size (Leave seat passage) = 0
text_size (Look seat) = 0
text_size (Publish seat passage text) = length text.now

abbrev pub Short : Result Message LineFault → Type 0
Short (Ok m) = text_size m ≤ 80
Short (Err e) = Unit {0}

-- the passage of a body, in its third and fourth bytes
abbrev pub passage_in : List ℕ → ℕ
passage_in bs = slice_index bs 2 * 256 + slice_index bs 3

-- a body of kind k, if its length is right
abbrev pub sized : ℕ → Bool → Request → Result Request LineFault
sized k right q = cond right (Ok q) (Err (Length k))

-- the first byte tells the kind, and each kind has its length
unfoldable pub message_of : List ℕ → Result Request LineFault
message_of bs =
    cond (length bs == 0) (Err Kind)
    (cond (slice_index bs 0 == 1) (sized 1 (length bs == 2) (applies (slice_index bs 1)))
    (cond (slice_index bs 0 == 2) (sized 2 (length bs == 5) (polls (slice_index bs 1) (passage_in bs) (slice_index bs 4)))
    (cond (slice_index bs 0 == 3) (sized 3 (length bs == 4) (quits (slice_index bs 1) (passage_in bs)))
    (cond (slice_index bs 0 == 4) (sized 4 (length bs == 4) (leaves (slice_index bs 1) (passage_in bs)))
    (cond (slice_index bs 0 == 5) (sized 5 (length bs == 2) (looks (slice_index bs 1)))
    (cond (slice_index bs 0 == 6)
    (sized 6 (nat_le 5 (length bs) && nat_le (length bs) 84) (publishes (slice_index bs 1) (passage_in bs) (drop 4 bs)))
    (Err Kind)))))))
