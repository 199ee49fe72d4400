-- The lines of a script. Assumes nothing.
--     verb_of w   what a line does, by its first word
--     own_of t    the seat and the passage that the text t begins with
--     past_two t  the text behind the first two words of t
--     end_of t    whether t has no word
--     line_of t   what the line t says, or what is wrong with it
--     note_of t   the text of the publish t
use Rattle.std.specs.Prelude.{ℕ, cond, List, length, Some, None, Ok, Err, codes, Option, Result, ◌==◌}
use Rattle.std.specs.List.{take_while}
use Rattle.std.specs.Str.{bytes_eq}
use Rattle.laws.specs.declared.call.Call.{Call}
use Rattle.laws.specs.declared.call.Call.TheVariants as call
use Rattle.script.specs.declared.fault.LineFault.{LineFault}
use Rattle.script.specs.declared.fault.LineFault.TheVariants.{Unknown, TooMany}
use Rattle.script.specs.declared.line.Line.{Line}
use Rattle.script.specs.declared.line.Line.TheVariants as line
use Rattle.script.specs.declared.part.Part.TheVariants as part
use Rattle.script.specs.declared.reader.Own.{Own}
use Rattle.script.specs.declared.verb.Verb.{Verb}
use Rattle.script.specs.declared.verb.Verb.TheVariants as verb
use Rattle.script.specs.Fields.{field_of, onward, times_of}
use Rattle.script.specs.Words.{indented_of, is_note_byte, rest_of, trimmed_of, word_of}

abbrev pub verb_of : List ℕ → Option Verb
verb_of w =
    cond (bytes_eq w (codes "ways")) (Some verb.Ways)
    (cond (bytes_eq w (codes "apply")) (Some verb.Apply)
    (cond (bytes_eq w (codes "poll")) (Some verb.Poll)
    (cond (bytes_eq w (codes "give-up")) (Some verb.GiveUp)
    (cond (bytes_eq w (codes "leave")) (Some verb.Leave)
    (cond (bytes_eq w (codes "publish")) (Some verb.Publish) None)))))

abbrev pub own_of : List ℕ → Result Own LineFault
own_of t = onward (field_of part.Seat (word_of t)) (λ p. onward (field_of part.Passage (word_of (rest_of t))) (λ n. Ok (record { seat = record { 0 = p }; passage = record { 0 = n } })))

abbrev pub past_two : List ℕ → List ℕ
past_two t = rest_of (rest_of t)

abbrev pub end_of : List ℕ → Result (Unit {0}) LineFault
end_of t = cond (length (word_of t) == 0) (Ok tt) (Err TooMany)

abbrev pub once : Call → Line
once c = line.Calls c 1

abbrev pub ways_line_answer : List ℕ → Result Line LineFault
ways_line_answer t = onward (field_of part.Ways (word_of t)) (λ n. onward (end_of (rest_of t)) (λ _. Ok (line.Ways n)))

abbrev pub apply_line_answer : List ℕ → Result Line LineFault
apply_line_answer t = onward (field_of part.Seat (word_of t)) (λ p. onward (end_of (rest_of t)) (λ _. Ok (once (call.Apply (record { 0 = p })))))

abbrev pub poll_line_answer : List ℕ → Result Line LineFault
poll_line_answer t =
    onward (own_of t) (λ o.
    onward (field_of part.Coin (word_of (past_two t))) (λ k.
    onward (times_of (word_of (rest_of (past_two t)))) (λ m.
    onward (end_of (rest_of (rest_of (past_two t)))) (λ _. Ok (line.Calls (call.Poll o.seat o.passage k) m)))))

abbrev pub give_up_line_answer : List ℕ → Result Line LineFault
give_up_line_answer t = onward (own_of t) (λ o. onward (end_of (past_two t)) (λ _. Ok (once (call.GiveUp o.seat o.passage))))

abbrev pub leave_line_answer : List ℕ → Result Line LineFault
leave_line_answer t = onward (own_of t) (λ o. onward (end_of (past_two t)) (λ _. Ok (once (call.Leave o.seat o.passage))))

abbrev pub publish_line_answer : List ℕ → Result Line LineFault
publish_line_answer t = onward (own_of t) (λ o. Ok (once (call.Publish o.seat o.passage)))

abbrev pub verb_line : Option Verb → List ℕ → Result Line LineFault
verb_line None t = Err Unknown
verb_line (Some verb.Ways) t = ways_line_answer t
verb_line (Some verb.Apply) t = apply_line_answer t
verb_line (Some verb.Poll) t = poll_line_answer t
verb_line (Some verb.GiveUp) t = give_up_line_answer t
verb_line (Some verb.Leave) t = leave_line_answer t
verb_line (Some verb.Publish) t = publish_line_answer t

abbrev pub line_of : List ℕ → Result Line LineFault
line_of t = cond (length (word_of t) == 0) (Ok line.Blank) (verb_line (verb_of (word_of t)) (rest_of t))

-- a text up to a comment
abbrev pub uncommented : List ℕ → List ℕ
uncommented t = take_while is_note_byte t

abbrev pub note_of : List ℕ → List ℕ
note_of t = trimmed_of (uncommented (indented_of (past_two (rest_of t))))
