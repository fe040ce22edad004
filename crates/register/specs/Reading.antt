-- What reading a run of keys gives: its numbers, or the refusal on sight.
--   Good     a run whose length, keys and value are good, with its numbers
--   Reads    what is read of a run
use Rattle.std.specs.Prelude.{◌≡◌, ℕ, true, Some, None, Ok, Err, Result}
use Rattle.model.specs.declared.run_refusal.RunRefusal.{RunRefusal}
use Rattle.model.specs.Model.{Fixed}
use Rattle.model.specs.Step.{Asked, no_run, no_key, read_run, run_length}
use Rattle.dictionary.specs.declared.run.Run.{Run}

module _ {K V : Type 0} (f : Fixed K V) (key : K) (n : ℕ) (value : V) where
  -- the length is 1 to 64 and the run's, the key and the value have numbers, and every number of the run is a key's
  pub record Good (run : Run) : Type 0 where
    pub length : run_length n ≡ true
    pub whole : run.length ≡ n
    pub key_number : f.keys.number key ≡ Some run.first
    pub all_keys : no_key f run.first 0 n ≡ None
    pub value_number : f.values.number value ≡ Some run.value

  -- the numbers of a good run; else the refusal with which the machine refuses a take or a cancel of it on sight
  abbrev pub Reads : Result Run RunRefusal → Type 0
  Reads (Ok run) = Good run
  Reads (Err e) = (make : (m n w : ℕ) → Asked) → read_run f make (f.keys.number key) n (f.values.number value) (run_length n) ≡ no_run e
