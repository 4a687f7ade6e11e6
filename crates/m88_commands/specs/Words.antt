-- The words that say what a run is asked for besides its program.
use Rattle.std.specs.Prelude.{ℕ, Bool, true, false, ◌≡◌, ◌≤◌, List, [], ◌∷◌, codes}
use Rattle.m88_event.specs.Letters.{IsSchedule}
use Rattle.m88_pager.specs.Paged.{most_frames}
use Rattle.m88_tasks.specs.Letters.{IsShareSchedule}
use Rattle.m88_tasks.specs.declared.letter.ShareLetter.{ShareLetter}
use Rattle.m88_commands.specs.Limits.{most_limit, session_limit}
use Rattle.m88_session.specs.Numbers.{IsShortNumber}
use Rattle.m88_session.specs.Settings.{Settings}
use Rattle.m88_commands.specs.Pages.{IsAbsent}

-- a text writes a limit in one to seven decimal digits, which may begin with zeros
abbrev pub IsLimit : List ℕ → ℕ → Type 0
IsLimit text n = IsShortNumber 10 7 text n × (n ≤ most_limit)

-- the words that say a mode stand last: none, or the word `mxm`
abbrev pub mode_words : Bool → List (List ℕ)
mode_words false = []
mode_words true = codes "mxm" ∷ []

-- the words are the absent pages, the schedule and the mode of settings with this limit
pub record SayOpening (limit : ℕ) (words : List (List ℕ)) (settings : Settings) : Type 0 where
  pub limit_is : settings.limit ≡ limit
  pub absent_text : List ℕ
  pub schedule_text : List ℕ
  pub words_are : words ≡ absent_text ∷ schedule_text ∷ mode_words settings.mxm
  pub is_absent : IsAbsent absent_text settings.absent
  pub is_schedule : IsSchedule schedule_text settings.schedule

-- they are those of a session, whose limit no word says
abbrev pub SaySession : List (List ℕ) → Settings → Type 0
SaySession words settings = SayOpening session_limit words settings

-- the words are the limit of a run, and then its absent pages, its schedule and its mode
pub record SaySettings (words : List (List ℕ)) (settings : Settings) : Type 0 where
  pub limit_text : List ℕ
  pub rest : List (List ℕ)
  pub words_are : words ≡ limit_text ∷ rest
  pub is_limit : IsLimit limit_text settings.limit
  pub say_rest : SayOpening settings.limit rest settings

-- the same without a word for the mode
pub record SayPlain (words : List (List ℕ)) (settings : Settings) : Type 0 where
  pub say : SaySettings words settings
  pub clear : settings.mxm ≡ false

-- a text writes a number of frames in one or two decimal digits, of which the first may be a zero
abbrev pub IsFrameCount : List ℕ → ℕ → Type 0
IsFrameCount text n = IsShortNumber 10 2 text n × (1 ≤ n) × (n ≤ most_frames)

-- the words are the number of frames of a paged run, and then those of a run without a mode
pub record SayPaged (words : List (List ℕ)) (frames : ℕ) (settings : Settings) : Type 0 where
  pub frames_text : List ℕ
  pub rest : List (List ℕ)
  pub words_are : words ≡ frames_text ∷ rest
  pub is_count : IsFrameCount frames_text frames
  pub say_rest : SayPlain rest settings

-- the words are the limit, the absent pages and the schedule of a shared run
pub record SayShared (words : List (List ℕ)) (limit : ℕ) (absent : ℕ → Bool) (schedule : List ShareLetter)
    : Type 0 where
  pub limit_text : List ℕ
  pub absent_text : List ℕ
  pub schedule_text : List ℕ
  pub words_are : words ≡ limit_text ∷ absent_text ∷ schedule_text ∷ []
  pub is_limit : IsLimit limit_text limit
  pub is_absent : IsAbsent absent_text absent
  pub is_schedule : IsShareSchedule schedule_text schedule
