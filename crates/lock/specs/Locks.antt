-- A box as its calls find it: a record, a store and a table that are lent. Assumes nothing.
--     state_in words x  the state of the box, by the words of its store
--     SameLoans x y     y has the record, the store and the table that were lent to x, and no others
use Rattle.std.specs.Prelude.{◌≡◌, ℕ, List}
use Rattle.lock.specs.declared.locks.Lock.{Lock}
use Rattle.lock.specs.States.{BoxState, state_of}

abbrev pub state_in : {S : Type 0} → (S → List ℕ) → Lock S → BoxState
state_in words x = state_of x.record.now x.table.now (words x.store.now)

-- a loan is known by its ghost name: with it a caller knows what its own record, store and table hold afterwards
pub record SameLoans {S : Type 0} (x y : Lock S) : Type 0 where
  pub same_record : y.record.ghost_name ≡ x.record.ghost_name
  pub same_store : y.store.ghost_name ≡ x.store.ghost_name
  pub same_table : y.table.ghost_name ≡ x.table.ghost_name
