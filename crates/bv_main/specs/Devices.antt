-- The words that name a device (this project's profile).
--
-- | word              | the device                                                      |
-- |-------------------|-----------------------------------------------------------------|
-- | `mem:BLOCKS`      | so many zero blocks in memory, 1 to 65,536                      |
-- | `new:BLOCKS:PATH` | a new file of so many zero blocks, 1 to 8,388,608               |
-- | `file:PATH`       | the whole blocks of a file that is there                        |
--
-- BLOCKS is a number as the commands have it. PATH is the rest of the word, whatever it holds.
use Rattle.std.specs.Prelude.{◌≡◌, ◌≢◌, ◌<◌, ◌^◌, ℕ, List, ◌∷◌, ◌++◌, length, slice_index, codes, decimal}
use Rattle.spec_record.specs.Tests.{IsBetween}
use Rattle.bv_main.specs.declared.device_word.DeviceWord.{DeviceWord}
use Rattle.bv_main.specs.declared.device_word.DeviceWord.TheVariants.{Mem, New, File}

-- the word names a device in memory
pub record IsMemWord (word : List ℕ) (blocks : ℕ) : Type 0 where
  pub written : word ≡ codes "mem:" ++ decimal blocks
  pub within : IsBetween 1 blocks 65536

-- the word names a file that is to be made
pub record IsNewWord (word : List ℕ) (blocks : ℕ) (path : List ℕ) : Type 0 where
  pub written : word ≡ codes "new:" ++ (decimal blocks ++ (codes ":" ++ path))
  pub within : IsBetween 1 blocks 8388608

-- the word names a file that is there
abbrev pub IsFileWord : List ℕ → List ℕ → Type 0
IsFileWord word path = word ≡ codes "file:" ++ path

-- the word names this device
abbrev pub Names : List ℕ → DeviceWord → Type 0
Names word (Mem blocks) = IsMemWord word blocks
Names word (New blocks path) = IsNewWord word blocks path.now
Names word (File path) = IsFileWord word path.now

-- a file that is to be made has no more blocks than the bytes of a file can be counted
abbrev pub HasFileRoom : DeviceWord → Type 0
HasFileRoom (Mem blocks) = Unit {0}
HasFileRoom (New blocks path) = blocks < 2 ^ 51
HasFileRoom (File path) = Unit {0}

-- the word names no device
pub record NamesNone (word : List ℕ) : Type 0 where
  pub no_mem : (blocks : ℕ) → ¬ IsMemWord word blocks
  pub no_new : (blocks : ℕ) (path : List ℕ) → ¬ IsNewWord word blocks path
  pub no_file : (path : List ℕ) → ¬ IsFileWord word path

-- no byte of the text is a colon
abbrev pub HasNoColon : List ℕ → Type 0
HasNoColon text = (i : ℕ) → i < length text → slice_index text i ≢ 58

-- the text is cut at its first colon
pub record IsCutAtColon (text front rest : List ℕ) : Type 0 where
  pub joined : text ≡ front ++ (58 ∷ rest)
  pub first : HasNoColon front
