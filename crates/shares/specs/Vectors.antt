-- P11 and P12 of document 01, free of bytes.
use Rattle.std.specs.Prelude.{ℕ, suc, ◌<◌, ◌≡◌, Bool, true, false, cond, List, [], ◌∷◌, ◌++◌, eqb, replicate}
use Rattle.lent.specs.Fold.{sum}
use Rattle.shares.specs.Pool.{Pool, free, others_lack, fit}
use Rattle.shares.specs.Rack.{Protocol, Call, on, Rack, holds, run, answers}

-- ---- P11: share 10 for all, ceiling 96 for holder 0, 10 elsewhere

abbrev pub p11 : Pool
p11 = record { holders = 8; cells = 96; share = λ i. 10; ceiling = λ i. cond (eqb i 0) 96 10 }

-- The smallest protocol that asks for cells: each call asks for one. A holder that gets none ends with 20, and its cells
-- are free at once; an ended holder refuses with 4.
pub data Asker : Type 0 where
  busy : ℕ → Asker
  ended : Asker

abbrev pub asker_held : Asker → ℕ
asker_held (busy n) = n
asker_held ended = 0

abbrev pub asker_asks : Asker → Bool
asker_asks (busy n) = true
asker_asks ended = false

abbrev pub asker_next : Asker → Bool → Asker
asker_next (busy n) true = busy (suc n)
asker_next (busy n) false = ended
asker_next ended g = ended

abbrev pub asker_answer : Asker → Bool → ℕ
asker_answer (busy n) true = 0
asker_answer (busy n) false = 20
asker_answer ended g = 4

abbrev pub asker : Protocol
asker = record {
  State = Asker;
  Input = Unit {0};
  Answer = ℕ;
  held = asker_held;
  asks = λ i s x. asker_asks s;
  next = λ i s g x. asker_next s g;
  answer = λ i s g x. asker_answer s g;
  refused = λ x. 3;
}

-- nobody holds anything
abbrev pub idle : Rack asker
idle i = busy 0

-- holder 0 asks n times, the others are idle
abbrev pub asks0 : ℕ → List (Call asker)
asks0 n = replicate n (on 0 tt)

pub record Eleven : Type 0 where
  -- it gets its 26th cell and ends with 20 at the 27th
  pub told : answers p11 asker idle (asks0 27) ≡ replicate 26 0 ++ (20 ∷ [])
  -- at the 26th 71 are free and 70 lacking, at the 27th 70 and 70
  pub free_26 : free p11 (holds asker (run p11 asker idle (asks0 25))) ≡ 71
  pub lacking_26 : others_lack p11 (holds asker (run p11 asker idle (asks0 25))) 0 ≡ 70
  pub free_27 : free p11 (holds asker (run p11 asker idle (asks0 26))) ≡ 70
  pub lacking_27 : others_lack p11 (holds asker (run p11 asker idle (asks0 26))) 0 ≡ 70

-- ---- P12: eight shares, n for holder 0 and 12 for each other

abbrev pub p12 : ℕ → Pool
p12 n = record { holders = 8; cells = 96; share = λ i. cond (eqb i 0) n 12; ceiling = λ i. 96 }

pub record Twelve : Type 0 where
  -- shares adding to 96 open
  pub adds_96 : sum 8 (p12 12).share ≡ 96
  pub opens : fit (p12 12) ≡ true
  -- 97 is refused
  pub adds_97 : sum 8 (p12 13).share ≡ 97
  pub refused : fit (p12 13) ≡ false
  -- and so are any that add to more than the cells
  pub beyond : (K : Pool) → K.cells < sum K.holders K.share → fit K ≡ false
