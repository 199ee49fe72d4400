-- The numbers by which a store and an image refuse. Assumes nothing.
--     store_number e  the number of a store's refusal
--     image_number e  the number of the refusal to take up an image
--     numbered r      an answer with its refusal as a number
use Rattle.std.specs.Prelude.{ℕ, Ok, Err, Result}
use Rattle.store.specs.declared.fault.StoreFault.{StoreFault}
use Rattle.store.specs.declared.fault.StoreFault.TheVariants.{Position}
use Rattle.store.specs.declared.fault.ImageFault.{ImageFault}
use Rattle.store.specs.declared.fault.ImageFault.TheVariants.{Short, Version, Length}

abbrev pub store_number : StoreFault → ℕ
store_number Position = 24

abbrev pub image_number : ImageFault → ℕ
image_number Short = 21
image_number Version = 22
image_number Length = 23

abbrev pub numbered : {A : Type 0} → Result A StoreFault → Result A ℕ
numbered (Ok x) = Ok x
numbered (Err e) = Err (store_number e)
