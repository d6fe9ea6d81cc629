-- those with longer texts
use Rattle.wording.proofs.refusal.Goals as goal

pub returns-in-BadBoard : goal.returns-in-BadBoard
returns-in-BadBoard c = rw c.in-BadBoard.is c.text.ensures

pub returns-in-CutShort : goal.returns-in-CutShort
returns-in-CutShort c = rw c.in-CutShort.is c.begins-in-CutShort.ensures

pub returns-in-ReadOutside : goal.returns-in-ReadOutside
returns-in-ReadOutside c = rw c.in-ReadOutside.is c.means.ensures

pub returns-in-NoAdjustRow : goal.returns-in-NoAdjustRow
returns-in-NoAdjustRow c = rw c.in-NoAdjustRow.is c.standing.ensures

pub returns-in-BadEntry : goal.returns-in-BadEntry
returns-in-BadEntry c = rw c.in-BadEntry.is c.in_rom-in-BadEntry.ensures

pub returns-in-NotFollowed : goal.returns-in-NotFollowed
returns-in-NotFollowed c = rw c.in-NotFollowed.is c.standing-in-NotFollowed.ensures

pub returns-in-BudgetTooLarge : goal.returns-in-BudgetTooLarge
returns-in-BudgetTooLarge c = rw c.in-BudgetTooLarge.is c.text-in-BudgetTooLarge.ensures

pub returns-in-TooDeep : goal.returns-in-TooDeep
returns-in-TooDeep c = rw c.in-TooDeep.is c.standing-in-TooDeep.ensures

pub returns-in-BadVersion : goal.returns-in-BadVersion
returns-in-BadVersion c = rw c.in-BadVersion.is c.text-in-BadVersion.ensures

pub returns-in-ReplayEnded : goal.returns-in-ReplayEnded
returns-in-ReplayEnded c = rw c.in-ReplayEnded.is c.text-in-ReplayEnded.ensures
