-- Written scenarios are read again.
use Rattle.std.proofs.Common.{◌≡◌, ◌≢◌, ℕ, zero, suc, ◌+◌, ◌-◌, ◌<◌, true, false, eqb, List, [], ◌∷◌, ◌++◌, length, map, filter, take, drop, get_or, None, refl, sym, ap, subst, ◌∙◌, append_assoc, arith, inl, inr, true≢false}
use Rattle.std.specs.Prelude.{decimal, codes, All, IsTrue}
use Rattle.std.specs.List.{AllByRecursion, AllZip, onto_first, enumerate_from, join_with_byte}
use Rattle.std.specs.Str.Lines.{strip_carriage_return}
use Rattle.std.proofs.lemmas.Bool.{ne_eqb, cases_lt}
use Rattle.std.proofs.lemmas.List.{append-nil, take_all, take_more, length-map, map-append}
use Rattle.std.proofs.lemmas.Grind.{flat_map-append}
use Rattle.std.proofs.lemmas.List.FromFn.{length-enumerate_from}
use Rattle.std.proofs.lemmas.List.Elements.{recursion_from_All}
use Rattle.fleet_model.specs.declared.geometry.Cell.{Cell}
use Rattle.fleet_model.specs.declared.task.Task.{Task}
use Rattle.fleet_model.specs.Geometry.{place_of}
use Rattle.fleet_text.specs.Text.{Bytes, ended_lines, lines, words}
use Rattle.fleet_text.specs.Words.{ended_text}
use Rattle.fleet_text.specs.declared.numbers.TheConstants.{TOO_LARGE}
use Rattle.fleet_text.proofs.WrittenLaws.{small_is, From, IsToken, decimal_token, words_join}
use Rattle.fleet_grid.specs.Ground.{Ground, is_passable, IsGround}
use Rattle.fleet_grid.proofs.StoredLaws.{off_map}
use Rattle.fleet_scen.specs.Instance.{IsInstance}
use Rattle.fleet_scen.specs.ScenText.{Line, is_filled, is_version, filled_lines, agent_lines, SpellsTask, HasPassableEnds, StandsForTask, AreScenLines}
use Rattle.fleet_scen.specs.ScenWriting.{pair_text, task_words, task_line, scen_text}

-- ---- lines of words with a tab between two

-- no byte ends a line, or is taken off its end
abbrev AreKept : Bytes → Type 0
AreKept bytes = AllByRecursion (λ b. (eqb b 10 ≡ false) × (eqb b 13 ≡ false)) bytes

kept_append : (a b : Bytes) → AreKept a → AreKept b → AreKept (a ++ b)
kept_append [] b h k = k
kept_append (x ∷ a) b h k = (h.0, kept_append a b h.1 k)

kept_word : (w : Bytes) → From 33 w → AreKept w
kept_word [] h = tt
kept_word (b ∷ w) h =
    let here = h.0 in
    let lf : b ≢ 10 = omega (arith, here) in
    let cr : b ≢ 13 = omega (arith, here) in
    ((ne_eqb b 10 lf, ne_eqb b 13 cr), kept_word w h.1)

kept_join : (ws : List Bytes) → AllByRecursion IsToken ws → AreKept (join_with_byte 9 ws)
kept_join [] h = tt
kept_join (w ∷ []) h = kept_word w h.0.bytes
kept_join (w ∷ v ∷ ws) h = kept_append w (9 ∷ join_with_byte 9 (v ∷ ws)) (kept_word w h.0.bytes) ((refl, refl), kept_join (v ∷ ws) h.1)

ended_first : (l rest : Bytes) → AreKept l → ended_lines (l ++ 10 ∷ rest) ≡ l ∷ ended_lines rest
unfolding ended_lines
ended_first [] rest h = refl
ended_first (b ∷ l) rest h = rw h.0.0 (ap (onto_first b) (ended_first l rest h.1))

last_kept : (l : Bytes) (k : ℕ) → AreKept l → eqb (get_or l k 0) 13 ≡ false
last_kept [] k h = refl
last_kept (b ∷ l) zero h = h.0.1
last_kept (b ∷ l) (suc k) h = last_kept l k h.1

lines_kept : (ls : List Bytes) → AllByRecursion AreKept ls → lines (ended_text ls) ≡ ls
unfolding lines ended_lines
lines_kept [] h = refl
lines_kept (l ∷ ls) h =
    let one : ended_text (l ∷ ls) ≡ l ++ 10 ∷ ended_text ls = append_assoc l (10 ∷ []) (ended_text ls) in
    let end : strip_carriage_return l ≡ l = rw (last_kept l (length l - 1) h.0) refl in
    ap lines one ∙ ap (map strip_carriage_return) (ended_first l (ended_text ls) h.0) ∙ ap (λ (x : Bytes). x ∷ lines (ended_text ls)) end ∙ ap (λ (more : List Bytes). l ∷ more) (lines_kept ls h.1)

-- ---- the line of a task

zero_token : IsToken (codes "0")
zero_token = record { some = refl; bytes = (omega arith, tt) }

map_token : IsToken (codes "map")
map_token = record { some = refl; bytes = (omega arith, (omega arith, (omega arith, tt))) }

-- sizes and cells that are read
record AreSmall (w h : ℕ) (t : Task) : Type 0 where
  width : w < TOO_LARGE
  height : h < TOO_LARGE
  start_x : t.start.x < TOO_LARGE
  start_y : t.start.y < TOO_LARGE
  goal_x : t.goal.x < TOO_LARGE
  goal_y : t.goal.y < TOO_LARGE

-- two numbers and what follows them
two_joined : (a b : ℕ) (rest : Bytes) → pair_text a b ++ rest ≡ decimal a ++ 9 ∷ (decimal b ++ 9 ∷ rest)
two_joined a b rest = append_assoc (decimal a) (9 ∷ (decimal b ++ 9 ∷ [])) rest ∙ ap (λ (t : Bytes). decimal a ++ 9 ∷ t) (append_assoc (decimal b) (9 ∷ []) rest)

-- the pieces that are written of a task
pub pieces_joined : (w h : ℕ) (t : Task) (before : Bytes)
    → ((((before ++ codes "0\tmap\t") ++ pair_text w h) ++ pair_text t.start.x t.start.y) ++ pair_text t.goal.x t.goal.y) ++ codes "0\n" ≡ before ++ task_line w h t ++ 10 ∷ []
unfolding task_words
pieces_joined w h t before =
    let last : Bytes = codes "0\n" in
    let goal = pair_text t.goal.x t.goal.y in
    let start = pair_text t.start.x t.start.y in
    let sizes = pair_text w h in
    let first = codes "0\tmap\t" in
    let out : ((((before ++ first) ++ sizes) ++ start) ++ goal) ++ last ≡ before ++ (first ++ (sizes ++ (start ++ (goal ++ last)))) =
    append_assoc (((before ++ first) ++ sizes) ++ start) goal last ∙ append_assoc ((before ++ first) ++ sizes) start (goal ++ last)
    ∙ append_assoc (before ++ first) sizes (start ++ (goal ++ last)) ∙ append_assoc before first (sizes ++ (start ++ (goal ++ last))) in
    let inner : sizes ++ (start ++ (goal ++ last)) ≡ decimal w ++ 9 ∷ (decimal h ++ 9 ∷ (decimal t.start.x ++ 9 ∷ (decimal t.start.y ++ 9 ∷ (decimal t.goal.x ++ 9 ∷ (decimal t.goal.y ++ 9 ∷ last))))) =
    ap (λ (x : Bytes). sizes ++ (start ++ x)) (two_joined t.goal.x t.goal.y last)
    ∙ ap (λ (x : Bytes). sizes ++ x) (two_joined t.start.x t.start.y (decimal t.goal.x ++ 9 ∷ (decimal t.goal.y ++ 9 ∷ last)))
    ∙ two_joined w h (decimal t.start.x ++ 9 ∷ (decimal t.start.y ++ 9 ∷ (decimal t.goal.x ++ 9 ∷ (decimal t.goal.y ++ 9 ∷ last)))) in
    out ∙ ap (λ (x : Bytes). before ++ (first ++ x)) inner ∙ simp append_assoc

tokens : (w h : ℕ) (t : Task) → AreSmall w h t → AllByRecursion IsToken (task_words w h t)
unfolding task_words
tokens w h t s =
    let width = s.width in
    let height = s.height in
    let sx = s.start_x in
    let sy = s.start_y in
    let gx = s.goal_x in
    let gy = s.goal_y in
    (zero_token, (map_token, (decimal_token w (omega (arith, width)), (decimal_token h (omega (arith, height)), (decimal_token t.start.x (omega (arith, sx)), (decimal_token t.start.y (omega (arith, sy)), (decimal_token t.goal.x (omega (arith, gx)), (decimal_token t.goal.y (omega (arith, gy)), (zero_token, tt)))))))))

line_words : (w h : ℕ) (t : Task) → AreSmall w h t → words (task_line w h t) ≡ task_words w h t
line_words w h t s = words_join 9 (task_words w h t) refl (tokens w h t s)

line_kept : (w h : ℕ) (t : Task) → AreSmall w h t → AreKept (task_line w h t)
line_kept w h t s = kept_join (task_words w h t) (tokens w h t s)

line_spells : (w h : ℕ) (t : Task) → AreSmall w h t → SpellsTask (task_words w h t) w h t
unfolding task_words
line_spells w h t s =
    let width = small_is w s.width in
    let height = small_is h s.height in
    let sx = small_is t.start.x s.start_x in
    let sy = small_is t.start.y s.start_y in
    let gx = small_is t.goal.x s.goal_x in
    let gy = small_is t.goal.y s.goal_y in
    record { fields = refl; numbers = rw (width, height, sx, sy, gx, gy) refl }

task_filled : (w h : ℕ) (t : Task) → is_filled (task_words w h t) ≡ true
unfolding task_words
task_filled w h t = refl

-- ---- the text

-- what is known of each task
abbrev AreRead : Ground → List Task → Type 0
AreRead g tasks = AllByRecursion (λ t. AreSmall g.width g.height t × HasPassableEnds g t) tasks

tasks_kept : (g : Ground) (tasks : List Task) → AreRead g tasks → AllByRecursion AreKept (map (task_line g.width g.height) tasks)
tasks_kept g [] h = tt
tasks_kept g (t ∷ tasks) h = (line_kept g.width g.height t h.0.0, tasks_kept g tasks h.1)

tasks_filled : (g : Ground) (n : ℕ) (tasks : List Task) → AreRead g tasks
    → filter (λ line. is_filled line.1) (enumerate_from n (map words (map (task_line g.width g.height) tasks))) ≡ enumerate_from n (map (task_words g.width g.height) tasks)
tasks_filled g n [] h = refl
tasks_filled g n (t ∷ tasks) h =
    rw (line_words g.width g.height t h.0.0, task_filled g.width g.height t) (ap (λ (more : List Line). (n, task_words g.width g.height t) ∷ more) (tasks_filled g (n + 1) tasks h.1))

tasks_stand : (g : Ground) (n : ℕ) (tasks : List Task) → AreRead g tasks → AllZip (StandsForTask g) (enumerate_from n (map (task_words g.width g.height) tasks)) tasks
tasks_stand g n [] h = tt
tasks_stand g n (t ∷ tasks) h = (record { spells = line_spells g.width g.height t h.0.0; cells = h.0.1 }, tasks_stand g (n + 1) tasks h.1)

version_kept : AreKept (codes "version 1")
version_kept = ((refl, refl), ((refl, refl), ((refl, refl), ((refl, refl), ((refl, refl), ((refl, refl), ((refl, refl), ((refl, refl), ((refl, refl), tt)))))))))

version_words : words (codes "version 1") ≡ codes "version" ∷ codes "1" ∷ []
unfolding words
version_words = refl

filled_are : (g : Ground) (tasks : List Task) → AreRead g tasks
    → filled_lines (codes "version 1" ∷ map (task_line g.width g.height) tasks) ≡ (1, codes "version" ∷ codes "1" ∷ []) ∷ enumerate_from 2 (map (task_words g.width g.height) tasks)
filled_are g tasks h =
    rw version_words (ap (λ (more : List Line). (1, codes "version" ∷ codes "1" ∷ []) ∷ more) (tasks_filled g 2 tasks h))

scen_lines : (g : Ground) (tasks : List Task) → IsInstance tasks → AreRead g tasks → AreScenLines (codes "version 1" ∷ map (task_line g.width g.height) tasks) g None tasks
scen_lines g tasks instance h =
    let ls = codes "version 1" ∷ map (task_line g.width g.height) tasks in
    let filled = filled_are g tasks h in
    let read = enumerate_from 2 (map (task_words g.width g.height) tasks) in
    let agents : agent_lines ls ≡ read = ap (drop 1) filled in
    let count : length read ≡ length tasks = length-enumerate_from 2 (map (task_words g.width g.height) tasks) ∙ length-map tasks (task_words g.width g.height) in
    record {
      version = subst (λ (lines : List Line). IsTrue (is_version (get_or lines 0 (0, [])).1)) (sym filled) refl;
      agents = subst (λ (lines : List Line). AllZip (StandsForTask g) lines tasks) (sym (ap (take (length tasks)) agents ∙ take_all (length tasks) read (omega (arith, count)))) (tasks_stand g 2 tasks h);
      all = ap length agents ∙ count;
      instance = instance;
    }

-- ---- cells of a map

cell_small : (g : Ground) (c : Cell) → IsGround g → IsTrue (is_passable g (place_of c)) → (c.x < TOO_LARGE) × (c.y < TOO_LARGE)
cell_small g c s passable =
    let few = s.width.few in
    let low = s.height.few in
    elim (cases_lt c.x g.width) [
      | inr past ↦ absurd (true≢false (sym passable ∙ off_map g c.x c.y s (inl past)))
      | inl right ↦ elim (cases_lt c.y g.height) [
        | inr past ↦ absurd (true≢false (sym passable ∙ off_map g c.x c.y s (inr past)))
        | inl below ↦ (omega (arith, few, right), omega (arith, low, below))
      ]
    ]

each_read : (g : Ground) (tasks : List Task) → IsGround g → AllByRecursion (HasPassableEnds g) tasks → AreRead g tasks
each_read g [] s h = tt
each_read g (t ∷ tasks) s h =
    let width = s.width.few in
    let height = s.height.few in
    let start = cell_small g t.start s h.0.start in
    let goal = cell_small g t.goal s h.0.goal in (
      (
        record {
          width = omega (arith, width);
          height = omega (arith, height);
          start_x = start.0;
          start_y = start.1;
          goal_x = goal.0;
          goal_y = goal.1;
        },
        h.0,
      ),
      each_read g tasks s h.1,
    )

pub scen_again : (g : Ground) (tasks : List Task) → IsGround g → IsInstance tasks → All (HasPassableEnds g) tasks → AreScenLines (lines (scen_text g.width g.height tasks)) g None tasks
scen_again g tasks s instance h =
    let read = each_read g tasks s (recursion_from_All (HasPassableEnds g) tasks h) in
    let written = lines_kept (codes "version 1" ∷ map (task_line g.width g.height) tasks) (version_kept, tasks_kept g tasks read) in
    subst (λ (ls : List Bytes). AreScenLines ls g None tasks) (sym written) (scen_lines g tasks instance read)

-- ---- one line more

pub task_more : (line : Task → Bytes) (first text new : Bytes) (tasks : List Task) (i : ℕ) (d : Task) → i < length tasks
    → text ≡ ended_text (first ∷ map line (take i tasks)) → new ≡ text ++ line (get_or tasks i d) ++ 10 ∷ [] → new ≡ ended_text (first ∷ map line (take (i + 1) tasks))
task_more line first text new tasks i d below e f =
    let ended = λ (l : Bytes). l ++ 10 ∷ [] in
    let t = get_or tasks i d in
    let front = first ∷ map line (take i tasks) in
    let one : ended_text (line t ∷ []) ≡ line t ++ 10 ∷ [] = append-nil (line t ++ 10 ∷ []) in
    let lines_more : first ∷ map line (take (i + 1) tasks) ≡ front ++ line t ∷ [] =
    ap (λ (ts : List Task). first ∷ map line ts) (take_more tasks i d below) ∙ ap (λ (ls : List Bytes). first ∷ ls) (map-append line (take i tasks) (t ∷ [])) in
    f ∙ append_assoc text (line t) (10 ∷ []) ∙ ap (λ (x : Bytes). x ++ (line t ++ 10 ∷ [])) e ∙ ap (λ (x : Bytes). ended_text front ++ x) (sym one)
    ∙ sym (flat_map-append ended front (line t ∷ [])) ∙ ap ended_text (sym lines_more)
