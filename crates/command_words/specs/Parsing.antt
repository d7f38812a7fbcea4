-- How the program's words are described to `clap`. Source: this profile.
use Rattle.std.specs.Prelude.{ℕ, Bool, true, List, [], ◌∷◌, codes}
use Rattle.clap.specs.Words.{App, Rule, fault_of, new_app, new_rule, with_rule, with_subcommand}
use Rattle.clap.specs.Walk.{is_empty}

-- a command with no flag of clap's own
abbrev pub bare : List ℕ → App
bare name = record {
  top = record (new_app name).top { disable_help_flag = true; disable_version_flag = true; disable_help_subcommand = true };
  subs = [];
}

-- a required word
abbrev pub needed : List ℕ → Rule
needed id = record (new_rule id) { required = true }

-- a command that takes one more word
abbrev pub of_one : List ℕ → List ℕ → App
of_one name id = with_rule (bare name) (needed id)

-- `check`, its stakes and its digest
abbrev pub of_check : App
of_check = with_rule (of_one (codes "check") (codes "STAKES")) (needed (codes "TX"))

-- the program before it has commands
abbrev pub program_top : App
program_top = record {
  top = record (bare (codes "committee")).top { no_binary_name = true; subcommand_required = true };
  subs = [];
}

-- the program with its commands, each a subcommand of one level
unfoldable pub program : App
program =
    with_subcommand (with_subcommand (with_subcommand (with_subcommand (with_subcommand (with_subcommand program_top
    (bare (codes "run")).top)
    (of_one (codes "make") (codes "N")).top)
    of_check.top)
    (of_one (codes "follow") (codes "M")).top)
    (of_one (codes "desk") (codes "N")).top)
    (of_one (codes "replay") (codes "M")).top

-- whether clap finds no fault with the words
unfoldable pub is_taken : List (List ℕ) → Bool
is_taken words = is_empty (fault_of program words)
