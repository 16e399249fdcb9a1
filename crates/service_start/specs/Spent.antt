-- When a link to drivers in threads has ended.
use Rattle.std.specs.Prelude.{◌≡◌, List, length}
use Rattle.records.specs.Marks.{Mark}
use Rattle.channel_link.specs.Received.{AreReceived}
use Rattle.channel_link.specs.declared.messages.News.{News}

-- A link to drivers in threads had received all the messages that it gives, 2^40. Each start, each answer and each giving up of the record is
-- one of them, unchanged and in their order. The others left no mark and may be any, so there are such messages for every record. Of a link
-- the law `cut_once_spent` says more, by its own count.
pub record IsSpent (marks : List Mark) : Type 0 where
  pub got : List News
  pub received : AreReceived marks got
  pub all : length got ≡ 1099511627776
