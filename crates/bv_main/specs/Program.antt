-- What the program does with its words.
--
-- | words              | what is done                                              |
-- |--------------------|-----------------------------------------------------------|
-- | `--help`           | the help is printed                                       |
-- | `--version`        | the version is printed                                    |
-- | `root`             | the top call, on a device without a block                 |
-- | DEVICE COMMAND ..  | the top call, on the device that the first word names     |
use Rattle.std.specs.Prelude.{◌≡◌, ◌⊎◌, ℕ, List, [], ◌∷◌, codes, map, replicate, string_bytes, Some, Result, Ok, Err, IfOk}
use Rattle.spec_faults.specs.Faults.{CountsFaults}
use Rattle.bv_device.specs.declared.failed.Failed.{Failed}
use Rattle.bv_device.specs.Seen.{Seen}
use Rattle.bv_serve.specs.declared.refusal.Refusal.{Refusal}
use Rattle.bv_serve.specs.declared.refusal.Refusal.TheVariants.{DeviceFault, NoMemory}
use Rattle.bv_serve.specs.declared.status.Status.{Status}
use Rattle.bv_serve.specs.Lines.{refusal_line, refusal_status}
use Rattle.bv_serve.specs.Runs.{Change, LeavesAlone, Prints, PrintsAt}
use Rattle.bv_run.specs.declared.work.Work.{Work}
use Rattle.bv_run.specs.Top.{LeavesDevice, ServesAll}
use Rattle.bv_run.specs.Work.{Writes}
use Rattle.bv_main.specs.Access.{access_of}
use Rattle.bv_main.specs.declared.access.Access.{Access}
use Rattle.bv_main.specs.declared.device_word.DeviceWord.{DeviceWord}
use Rattle.bv_main.specs.declared.device_word.DeviceWord.TheVariants.{Mem, New, File}
use Rattle.bv_main.specs.declared.request.Request.{Request}
use Rattle.bv_main.specs.declared.request.Request.TheVariants.{Help, Version, Root, On}
use Rattle.bv_main.specs.Devices.{Names}

-- a word that names a device, and then a written form of a command that may do this to its file
pub record IsRun (words : List (List ℕ)) (device : DeviceWord) (access : Access)
    (command : List (List ℕ)) : Type 0 where
  pub word : List ℕ
  pub is : words ≡ word ∷ command
  pub named : Names word device
  pub form : (work : Work) × Writes command work × (access ≡ access_of work)

-- the words ask for this
abbrev pub Asks : List (List ℕ) → Request → Type 0
Asks words Help = words ≡ codes "--help" ∷ []
Asks words Version = words ≡ codes "--version" ∷ []
Asks words Root = words ≡ codes "root" ∷ []
Asks words (On device access command) = IsRun words device access (map string_bytes command.now)

-- the words are none of the forms
abbrev pub AsksNothing : List (List ℕ) → Type 0
AsksNothing words = (request : Request) → ¬ Asks words request

-- the run is refused, and its source left alone
pub record IsRefused (refusal : Refusal) (ended : Status) (input out : Change) : Type 0 where
  pub status : ended ≡ refusal_status refusal
  pub line : Prints out (refusal_line refusal)
  pub alone : LeavesAlone input

-- so many zero blocks in memory, which nothing was done to
abbrev pub memory : ℕ → Seen
memory blocks = record {
  told = Some (record { base = replicate blocks (replicate 8192 0); trace = [] });
  block_count = blocks;
  calls_made = 0;
  fault_count = 0;
}

-- the top call was made on a device that was so at the call, and that nobody has afterwards
abbrev pub RunsOn : Seen → List (List ℕ) → Status → Change → Change → Type 0
RunsOn old command ended input out = (new : Seen) × ServesAll command ended old new input out

-- Below, F is what opens files and D an open file. `seen` is what a contract sees of a file,
-- `count` the failed openings, and the rest says what came of opening, making and closing one.
module _ {F D : Type 0} (seen : D → Seen) (count : F → ℕ)
    (opens : F → Access → List ℕ → Result D Failed → F → Type 0)
    (makes : F → ℕ → List ℕ → Result D Failed → F → Type 0)
    (closes : F → D → F → Type 0) where
  -- this came of opening the path for such access
  abbrev pub IsOpened : F → Access → List ℕ → Result D Failed → F → Type 0
  IsOpened old access path made new =
      opens old access path made new × CountsFaults (count old) (count new) made

  -- this came of making a file of so many blocks at the path
  abbrev pub IsNewFile : F → ℕ → List ℕ → Result D Failed → F → Type 0
  IsNewFile old blocks path made new =
      makes old blocks path made new × CountsFaults (count old) (count new) made
      × IfOk made (λ dev. (seen dev).block_count ≡ blocks)

  -- the top call was made on the open file, and what was closed is the file as that call left it:
  -- the very one that was opened, where the command makes no volume or is refused before it does
  pub record RunsOnOpen (dev : D) (old new : F) (command : List (List ℕ)) (ended : Status)
      (input out : Change) : Type 0 where
    pub left : D
    pub serves : ServesAll command ended (seen dev) (seen left) input out
    pub untouched : LeavesDevice command ended → left ≡ dev
    pub closed : closes old left new
    pub kept : count new ≡ count old

  -- the top call was made on the file, or there is none
  abbrev pub RunsOnFile : Result D Failed → F → F → List (List ℕ) → Status → Change → Change
      → Type 0
  RunsOnFile (Ok dev) old new command ended input out =
      RunsOnOpen dev old new command ended input out
  RunsOnFile (Err failed) old new command ended input out =
      (new ≡ old) × IsRefused DeviceFault ended input out

  -- what is done with a command on the device that a word names
  abbrev pub RunsOnWord : DeviceWord → Access → F → F → List (List ℕ) → Status → Change → Change
      → Type 0
  RunsOnWord (Mem blocks) access old new command ended input out =
      (new ≡ old)
      × (RunsOn (memory blocks) command ended input out ⊎ IsRefused NoMemory ended input out)
  RunsOnWord (New blocks path) access old new command ended input out =
      (made : Result D Failed) × (opened : F) × IsNewFile old blocks path.now made opened
      × RunsOnFile made opened new command ended input out
  RunsOnWord (File path) access old new command ended input out =
      (made : Result D Failed) × (opened : F) × IsOpened old access path.now made opened
      × RunsOnFile made opened new command ended input out

  -- what is done for a request
  abbrev pub Does : (help version : List ℕ) → Request → F → F → Status → Change → Change → Type 0
  Does help version Help old new ended input out =
      (new ≡ old) × PrintsAt ended out help × LeavesAlone input
  Does help version Version old new ended input out =
      (new ≡ old) × PrintsAt ended out version × LeavesAlone input
  Does help version Root old new ended input out =
      (new ≡ old) × RunsOn (memory 0) (codes "root" ∷ []) ended input out
  Does help version (On device access command) old new ended input out =
      RunsOnWord device access old new (map string_bytes command.now) ended input out
