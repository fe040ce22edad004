-- What the traits' laws give: the fixed data of any five parts are lawful.
use Rattle.std.proofs.Common.{◌≡◌, ℕ, ◌^◌, ◌<◌, ◌≤◌, true, Some}
use Rattle.coding.specs.declared.Coding as coding
use Rattle.permutation.specs.declared.Permutation as permutation
use Rattle.table.specs.declared.table.Table as table
use Rattle.table.specs.Meaning.{Fit}
use Rattle.model.specs.Laws.{Lawful, LawfulCoding, LawfulMixing, LawfulKind}
use Rattle.dictionary.specs.Stored.{mixing}
use Rattle.register.specs.declared.parts.Parts.{Parts}
use Rattle.register.specs.Fixed.{coding_of, kind_of, fixed_of}

-- every coding of a type
pub lawful_coding : {K T : Type 0} (kc : coding.Ghosts K T)
    → ((s : K) (x : T) (n : ℕ) → kc.number s x ≡ Some n → n < 2 ^ kc.width s)
    → ((s : K) (x : T) (n : ℕ) → kc.number s x ≡ Some n → kc.item s n ≡ Some x)
    → ((s : K) (x : T) (n : ℕ) → kc.item s n ≡ Some x → kc.number s x ≡ Some n)
    → (s : K) → LawfulCoding (coding_of kc s)
lawful_coding kc below back forth s = record { below = below s; back = back s; forth = forth s }

-- every permutation of a type
pub lawful_mixing : {P : Type 0} (pm : permutation.Ghosts P)
    → ((s : P) (n : ℕ) → n < 2 ^ pm.width s → pm.forth s n < 2 ^ pm.width s)
    → ((s : P) (n : ℕ) → pm.back s (pm.forth s n) ≡ n)
    → (s : P) → LawfulMixing (mixing pm s)
lawful_mixing pm within returns s = record { below = within s; returns = λ m h. returns s m }

-- every table of a type
pub lawful_kind : {A : Type 0} (ta : table.Ghosts A)
    → ((j : ℕ) × (ta.group ≡ 2 ^ j))
    → 1 ≤ ta.limit
    → ((t : A) (k v b : ℕ) → ta.fits t k v b ≡ true → Fit ta.group k v b)
    → (t : A) → LawfulKind (kind_of ta t)
lawful_kind ta grouped limited fitting t = record { grouped = grouped; limited = limited; fitting = fitting t }

-- any five parts
pub lawful : {K T V U P A B : Type 0} (kc : coding.Ghosts K T) (vc : coding.Ghosts V U) (pm : permutation.Ghosts P) (ta : table.Ghosts A) (tb : table.Ghosts B)
    → ((s : K) → LawfulCoding (coding_of kc s))
    → ((s : V) → LawfulCoding (coding_of vc s))
    → ((s : P) → LawfulMixing (mixing pm s))
    → ((t : A) → LawfulKind (kind_of ta t))
    → ((t : B) → LawfulKind (kind_of tb t))
    → (p : Parts K V P A B) → Lawful (fixed_of kc vc pm ta tb p)
lawful kc vc pm ta tb ck cv cp ca cb p = record {
  keys = ck p.keys;
  values = cv p.values;
  mix = cp p.permutation;
  first = ca p.first;
  second = cb p.second;
}
