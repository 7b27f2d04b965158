-- `searching::search_list` meets its contract: no bucket before the present position has a damaged word or a free slot. Assumes nothing.
use native.Mathlib.Omega.{arith}
use mathlib.Core.Path.{refl, sym, ◌∙◌}
use Rattle.searching.proofs.Slots.{harmed, has_room, is_crowded}
use Rattle.searching.proofs.Visiting.{back_from, may_lead, onward, push_one, pushed, visit_damaged, visit_homes, visit_none, visit_room, words_in}
use Rattle.searching.proofs.search_list.Goals as goal
use Rattle.searching.proofs.search_list.Goals.{then-v-lt-NEAR+else-loop-j-test, else-v-lt-NEAR}

pub search-init : goal.search-init
search-init c = (visit_homes _ _ _ _ _ c.requires refl refl, refl)

pub words_at-words-requires : goal.words_at-words-requires
words_at-words-requires c = words_in c.search.invariant.0 c.search-test.true

pub returns-then-is_damaged : goal.returns-then-is_damaged
returns-then-is_damaged c =
    visit_damaged c.search.invariant.0 c.search-test.true c.words_at-words.ensures refl
    (harmed _ _ (omega arith) (sym c.is_damaged.ensures ∙ c.if-is_damaged.true))

pub path_back-requires : goal.path_back-requires
path_back-requires c = back_from c.search.invariant.0 c.search-test.true c.loop-s-test.true

pub returns-then-words-s-eq0 : goal.returns-then-words-s-eq0
returns-then-words-s-eq0 c =
    visit_room c.search.invariant.0 c.search-test.true c.words_at-words.ensures refl
    (has_room c.loop-s.invariant.0 (omega arith) c.if-words-s-eq0.true) c.path_back.ensures

pub child-requires : goal.child-requires
child-requires c = may_lead c.search.invariant.0 c.search-test.true

pub loop-j-preserved : goal.loop-j-preserved
loop-j-preserved c =
    push_one c.search.invariant.0 c.search-test.true c.words_at-words.ensures c.if-v-lt-NEAR.true c.loop-j-test.true c.loop-j.invariant c.child.ensures

pub search-preserved : goal.search-preserved
search-preserved c =
    let none = is_crowded c.loop-s.invariant.0 (omega arith) in (
      elim c.if-v-lt-NEAR.branch [
        | then-v-lt-NEAR+else-loop-j-test w ↦ rw w.queue-is
            (pushed c.search.invariant.0 c.search-test.true c.words_at-words.ensures refl none w.loop-j.invariant w.loop-j-test.false)
        | else-v-lt-NEAR w ↦ rw w.queue-is
            (onward c.search.invariant.0 c.search-test.true c.words_at-words.ensures refl none w.if-v-lt-NEAR.false)
      ],
      c.loop-s.invariant.1,
    )

pub returns-after-search : goal.returns-after-search
returns-after-search c = rw c.search.invariant.1 (visit_none _ _ _ _ _ c.search.invariant.0 c.search-test.false)
