mod SuperblockRows
mod OldRows
