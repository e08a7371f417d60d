mod RoomLaws
mod TreeLaws
