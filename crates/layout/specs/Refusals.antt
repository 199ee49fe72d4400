-- What each refusal of the box says: its number, the seat that the call names (0 for an opening), and for an unfit word
-- the height and the cell, otherwise 0 and 0. Assumes nothing.
--     refusal n p   the refusal with number n of a call that names seat p
--     unfit p h c   the refusal of an unfit word in cell c, read by seat p at height h
--     refusal_of e  what each fault says
--     told r        an answer with its fault as the refusal that it says; told_as f r has f of the value too
use Rattle.std.specs.Prelude.{ℕ, Ok, Err, Result}
use Rattle.store.specs.Faults.{store_number}
use Rattle.layout.specs.declared.fault.Refusal.{Refusal}
use Rattle.layout.specs.declared.fault.BoxFault.{BoxFault}
use Rattle.layout.specs.declared.fault.BoxFault.TheVariants.{Ways, FewCells, FewSeats, NoSeat, Unlawful, Foreign, WrongState, Spent, BadCoin, Unfit, Store}

abbrev pub refusal : ℕ → ℕ → Refusal
refusal n p = record { number = n; seat = record { 0 = p }; height = 0; cell = 0 }

abbrev pub unfit : ℕ → ℕ → ℕ → Refusal
unfit p h c = record { number = 10; seat = record { 0 = p }; height = h; cell = c }

abbrev pub refusal_of : BoxFault → Refusal
refusal_of Ways = refusal 1 0
refusal_of (FewCells p) = refusal 2 p.0
refusal_of (FewSeats p) = refusal 3 p.0
refusal_of (NoSeat p) = refusal 4 p.0
refusal_of (Unlawful p) = refusal 5 p.0
refusal_of (Foreign p) = refusal 6 p.0
refusal_of (WrongState p) = refusal 7 p.0
refusal_of (Spent p) = refusal 8 p.0
refusal_of (BadCoin p) = refusal 9 p.0
refusal_of (Unfit p h c) = unfit p.0 h c
refusal_of (Store e) = refusal (store_number e) 0

abbrev pub told : {A : Type 0} → Result A BoxFault → Result A Refusal
told (Ok x) = Ok x
told (Err e) = Err (refusal_of e)

abbrev pub told_as : {A B : Type 0} → (A → B) → Result A BoxFault → Result B Refusal
told_as f (Ok x) = Ok (f x)
told_as f (Err e) = Err (refusal_of e)
